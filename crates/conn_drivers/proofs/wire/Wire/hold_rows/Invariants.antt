use Rattle.std.proofs.Common.{◌≡◌}
use Rattle.conn_drivers.specs.Loading.{HasRead}
use Rattle.conn_drivers.proofs.wire.Wire.hold_rows.Given as goal

abbrev pub invariant-loop-row : goal.invariant-loop-row
invariant-loop-row g l = HasRead (g.S.Server.seen l.fn.self.server) (g.S.Server.seen l.self.server) l.rows.items × (l.self.status ≡ l.fn.self.status)

abbrev pub decreases-loop-row : goal.decreases-loop-row
decreases-loop-row g l = (g.S.Server.seen l.self.server).rows_left
