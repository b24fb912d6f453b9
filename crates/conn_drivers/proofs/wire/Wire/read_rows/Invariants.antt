use Rattle.conn_drivers.proofs.ReadSteps.{HasReadAs}
use Rattle.conn_drivers.proofs.wire.Wire.read_rows.Given as goal

abbrev pub invariant-loop-row : goal.invariant-loop-row
invariant-loop-row g l = HasReadAs (g.R.RowReader.reads l.fn.reader) (g.S.Server.seen l.fn.self.server) (g.S.Server.seen l.self.server) l.fn.self.status l.self.status l.values.items

abbrev pub decreases-loop-row : goal.decreases-loop-row
decreases-loop-row g l = (g.S.Server.seen l.self.server).rows_left
