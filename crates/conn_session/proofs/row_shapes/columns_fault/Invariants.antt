use Rattle.std.proofs.Common.{◌≡◌, drop}
use Rattle.conn_reading.specs.RowShapes.{columns_fault}
use Rattle.conn_session.proofs.row_shapes.columns_fault.Given as goal

-- the columns so far fit
abbrev pub invariant-loop-place : goal.invariant-loop-place
invariant-loop-place l = columns_fault 0 l.columns l.row ≡ columns_fault l.place (drop l.place l.columns) l.row
