use Rattle.std.proofs.Common.{◌≡◌}
use Rattle.conn_script.specs.Shapes.{shape_columns}
use Rattle.conn_script.proofs.Reading.{behind}
use Rattle.conn_script.proofs.shape.columns_in.Given as goal

-- the columns so far, with those of the rest, are all of them
abbrev pub invariant-loop-letter : goal.invariant-loop-letter
invariant-loop-letter l = behind l.columns (shape_columns l.left l.rest) ≡ shape_columns 4 l.bytes

abbrev pub decreases-loop-letter : goal.decreases-loop-letter
decreases-loop-letter l = l.left
