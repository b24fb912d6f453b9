-- The fault of the first column that doesn't fit, column by column.
use Rattle.std.proofs.Common.{◌≡◌, ℕ, ◌+◌, ◌<◌, ◌∙◌, Bool, List, length, drop, get_or, Option, ap}
use Rattle.std.specs.Option.{option_or}
use Rattle.std.specs.Prelude.{slice_get}
use Rattle.std.proofs.lemmas.List.{at_drop_more}
use Rattle.conn_result.specs.declared.error.RowFault.{RowFault}
use Rattle.conn_model.specs.Armed.{Values}
use Rattle.conn_script.specs.declared.shape.ShapeKind.{ShapeKind}
use Rattle.conn_reading.specs.RowShapes.{column_fault, columns_fault}

-- from a column on the fault is the column's own or that from the next one on
pub fault_from : (columns : List (ShapeKind × Bool)) (row : Values) (i : ℕ) (d : ShapeKind × Bool) (o : Option RowFault) → i < length columns → column_fault i (get_or columns i d) (slice_get row i) ≡ o
    → columns_fault i (drop i columns) row ≡ option_or o (columns_fault (i + 1) (drop (i + 1) columns) row)
fault_from columns row i d o l is = at_drop_more (λ cs. columns_fault i cs row) columns i d l ∙ ap (λ (p : Option RowFault). option_or p (columns_fault (i + 1) (drop (i + 1) columns) row)) is
