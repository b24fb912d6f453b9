-- What a row is to a query whose rows have a shape.
use Rattle.std.specs.Prelude.{ℕ, ◌+◌, min, Bool, true, false, if◌then◌else◌, List, [], ◌∷◌, slice_get, Option, Some, None, Result, Ok, Err}
use Rattle.std.specs.Option.{option_or}
use Rattle.conn_result.specs.declared.error.RowFault.{RowFault}
use Rattle.conn_result.specs.declared.error.RowFault.TheVariants.{UnexpectedEndOfRow}
use Rattle.conn_model.specs.Armed.{Values}
use Rattle.conn_model.specs.declared.value.Value.{Value}
use Rattle.conn_model.specs.declared.value.Value.TheVariants as values
use Rattle.conn_rows.specs.Columns.{misfit}
use Rattle.conn_rows.specs.Lists.{Reading}
use Rattle.conn_script.specs.declared.shape.ShapeKind.{ShapeKind}
use Rattle.conn_script.specs.declared.shape.ShapeKind.TheVariants as kinds

-- each column that a row is to have, with whether it may be null; none where every row will do
abbrev pub RowShape : Type 0
RowShape = Option (List (ShapeKind × Bool))

-- the value is of the kind
abbrev pub is_of_kind : ShapeKind → Value → Bool
is_of_kind kinds.Int (values.Int i) = true
is_of_kind kinds.Text (values.Text t) = true
is_of_kind kinds.Bytes (values.Bytes b) = true
is_of_kind kind value = false

-- the value is of the column's kind, or null where that may be
abbrev pub fits_column : ShapeKind × Bool → Value → Bool
fits_column (kind, true) values.Null = true
fits_column (kind, may_be_null) value = is_of_kind kind value

-- the fault of the value in a column, where there is one; a column past the last number of its type is named by that
abbrev pub column_fault : ℕ → ShapeKind × Bool → Option Value → Option RowFault
column_fault n column None = Some UnexpectedEndOfRow
column_fault n column (Some value) = if fits_column column value then None else Some (misfit (min n 4294967295) value)

-- the fault of the first column that doesn't fit, from column n on; values behind the last one are not looked at
abbrev pub columns_fault : ℕ → List (ShapeKind × Bool) → Values → Option RowFault
columns_fault n [] row = None
columns_fault n (column ∷ columns) row = option_or (column_fault n column (slice_get row n)) (columns_fault (n + 1) columns row)

-- the fault of a row by the shape
abbrev pub shape_fault : RowShape → Values → Option RowFault
shape_fault None row = None
shape_fault (Some columns) row = columns_fault 0 columns row

-- the whole row, unless it has a fault
abbrev pub unless_misfit : Option RowFault → Values → Result Values RowFault
unless_misfit None row = Ok row
unless_misfit (Some fault) row = Err fault

-- how rows of the shape are read
abbrev pub shape_reads : RowShape → Reading Values
shape_reads shape row = unless_misfit (shape_fault shape row) row
