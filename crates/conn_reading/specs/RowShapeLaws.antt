-- A fault by a shape is always one of the row.
use Rattle.std.specs.Prelude.{ℕ, ◌+◌, min, slice_get, Bool, true, false, if◌then◌else◌, ⊤, List, [], ◌∷◌, Option, Some, None, IfErr}
use Rattle.std.specs.Option.{option_or}
use Rattle.conn_result.specs.declared.error.RowFault.{RowFault}
use Rattle.conn_model.specs.Armed.{Values}
use Rattle.conn_model.specs.declared.value.Value.{Value}
use Rattle.conn_model.specs.declared.value.Value.TheVariants as values
use Rattle.conn_rows.specs.Answers.{IsOfRow}
use Rattle.conn_rows.specs.Columns.{misfit}
use Rattle.conn_script.specs.declared.shape.ShapeKind.{ShapeKind}
use Rattle.conn_reading.specs.RowShapes.{RowShape, fits_column, column_fault, columns_fault, shape_fault, unless_misfit, shape_reads}

-- a fault, where there is one, is one of the row
abbrev IfOfRow : Option RowFault → Type 0
IfOfRow None = ⊤
IfOfRow (Some fault) = IsOfRow fault

misfit_of_row : (n : ℕ) (value : Value) → IsOfRow (misfit n value)
misfit_of_row n values.Null = tt
misfit_of_row n (values.Int i) = tt
misfit_of_row n (values.Text t) = tt
misfit_of_row n (values.Bytes b) = tt

column_fault_of_row : (n : ℕ) (column : ShapeKind × Bool) (o : Option Value) → IfOfRow (column_fault n column o)
column_fault_of_row n column None = tt
column_fault_of_row n column (Some value) =
    elim (fits_column column value) as (λ (b : Bool). IfOfRow (if b then None else Some (misfit (min n 4294967295) value))) [ true ↦ tt | false ↦ misfit_of_row (min n 4294967295) value ]

-- of the first of two faults
first_of_row : (o p : Option RowFault) → IfOfRow o → IfOfRow p → IfOfRow (option_or o p)
first_of_row None p first rest = rest
first_of_row (Some fault) p first rest = first

columns_fault_of_row : (n : ℕ) (columns : List (ShapeKind × Bool)) (row : Values) → IfOfRow (columns_fault n columns row)
columns_fault_of_row n [] row = tt
columns_fault_of_row n (column ∷ columns) row =
    first_of_row (column_fault n column (slice_get row n)) (columns_fault (n + 1) columns row) (column_fault_of_row n column (slice_get row n)) (columns_fault_of_row (n + 1) columns row)

shape_fault_of_row : (shape : RowShape) (row : Values) → IfOfRow (shape_fault shape row)
shape_fault_of_row None row = tt
shape_fault_of_row (Some columns) row = columns_fault_of_row 0 columns row

unless_of_row : (o : Option RowFault) (row : Values) → IfOfRow o → IfErr (unless_misfit o row) IsOfRow
unless_of_row None row h = tt
unless_of_row (Some fault) row h = h

pub shape_of_row : (shape : RowShape) (row : Values) → IfErr (shape_reads shape row) IsOfRow
shape_of_row shape row = unless_of_row (shape_fault shape row) row (shape_fault_of_row shape row)
