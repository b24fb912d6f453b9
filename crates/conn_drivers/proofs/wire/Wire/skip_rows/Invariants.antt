use Rattle.std.proofs.Common.{◌≡◌, List}
use Rattle.conn_model.specs.Armed.{Values}
use Rattle.conn_drivers.specs.Loading.{HasRead}
use Rattle.conn_drivers.proofs.wire.Wire.skip_rows.Given as goal

abbrev pub invariant-loop-e : goal.invariant-loop-e
invariant-loop-e g l = ((front : List Values) × HasRead (g.S.Server.seen l.fn.self.server) (g.S.Server.seen l.self.server) front) × (l.self.status ≡ l.fn.self.status)

abbrev pub decreases-loop-e : goal.decreases-loop-e
decreases-loop-e g l = (g.S.Server.seen l.self.server).rows_left
