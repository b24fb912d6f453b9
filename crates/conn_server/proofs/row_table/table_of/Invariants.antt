use Rattle.std.proofs.Common.{◌≡◌, ◌≤◌, length, drop}
use Rattle.conn_server.specs.RowTables.{armed_by}
use Rattle.conn_model.specs.Armed.{armed_of}
use Rattle.conn_server.proofs.row_table.table_of.Given as goal

-- the table has the rows of the lines that were read, from the end on
abbrev pub invariant-loop-left : goal.invariant-loop-left
invariant-loop-left l = (l.left ≤ length l.plan) × (armed_by l.table ≡ armed_of (drop l.left l.plan))

abbrev pub decreases-loop-left : goal.decreases-loop-left
decreases-loop-left l = l.left
