-- A fault of what is read is always one of the row.
use Rattle.std.specs.Prelude.{ℕ, Bool, true, false, List, Option, Some, None, Result, Ok, Err, IfErr, slice_get, if◌then◌else◌}
use Rattle.std.specs.Option.{ok_or}
use Rattle.conn_result.specs.declared.error.RowFault.{RowFault}
use Rattle.conn_result.specs.declared.error.RowFault.TheVariants.{UnexpectedEndOfRow, WrongKind}
use Rattle.conn_model.specs.Binds.{is_within}
use Rattle.conn_model.specs.declared.value.Value.{Value}
use Rattle.conn_model.specs.declared.value.Value.TheVariants.{Null, Int, Text, Bytes}
use Rattle.conn_rows.specs.Answers.{◌>>=◌, IsOfRow}
use Rattle.conn_rows.specs.Columns.{FromColumn, int_from_sql, text_from_sql, bytes_from_sql, option_from_sql}
use Rattle.conn_rows.specs.Rows.{column_from_row, pair_from_row, triple_from_row, quadruple_from_row}

-- each fault in a column is one of the row
abbrev pub ColumnLaw : {T : Type 0} → FromColumn T → Type 0
ColumnLaw from_sql = (column : ℕ) (v : Value) → IfErr (from_sql column v) IsOfRow

pub int_of_row : (limit : ℕ) → ColumnLaw (int_from_sql limit)
int_of_row limit column Null = tt
int_of_row limit column (Int i) = elim (is_within limit i) as (λ (b : Bool). IfErr (if b then Ok i else Err (WrongKind column)) IsOfRow) [ true ↦ tt | false ↦ tt ]
int_of_row limit column (Text t) = tt
int_of_row limit column (Bytes b) = tt

pub text_of_row : ColumnLaw text_from_sql
text_of_row column Null = tt
text_of_row column (Int i) = tt
text_of_row column (Text t) = tt
text_of_row column (Bytes b) = tt

pub bytes_of_row : ColumnLaw bytes_from_sql
bytes_of_row column Null = tt
bytes_of_row column (Int i) = tt
bytes_of_row column (Text t) = tt
bytes_of_row column (Bytes b) = tt

-- of two steps
steps_of_row : {A B : Type 0} (r : Result A RowFault) (f : A → Result B RowFault) → IfErr r IsOfRow → ((x : A) → IfErr (f x) IsOfRow) → IfErr (r >>= f) IsOfRow
steps_of_row (Ok x) f first rest = rest x
steps_of_row (Err fault) f first rest = first

pub option_of_row : {T : Type 0} (from_sql : FromColumn T) → ColumnLaw from_sql → ColumnLaw (option_from_sql from_sql)
option_of_row {T} from_sql law column Null = tt
option_of_row {T} from_sql law column (Int i) = steps_of_row {B = Option T} (from_sql column (Int i)) (λ (x : T). Ok (Some x)) (law column (Int i)) (λ x. tt)
option_of_row {T} from_sql law column (Text t) = steps_of_row {B = Option T} (from_sql column (Text t)) (λ (x : T). Ok (Some x)) (law column (Text t)) (λ x. tt)
option_of_row {T} from_sql law column (Bytes b) = steps_of_row {B = Option T} (from_sql column (Bytes b)) (λ (x : T). Ok (Some x)) (law column (Bytes b)) (λ x. tt)

-- of a column that may be missing
found_of_row : (o : Option Value) → IfErr (ok_or o UnexpectedEndOfRow) IsOfRow
found_of_row None = tt
found_of_row (Some v) = tt

pub column_of_row : {T : Type 0} (from_sql : FromColumn T) → ColumnLaw from_sql → (place : ℕ) (row : List Value) → IfErr (column_from_row from_sql place row) IsOfRow
column_of_row from_sql law place row = steps_of_row (ok_or (slice_get row place) UnexpectedEndOfRow) (from_sql place) (found_of_row (slice_get row place)) (law place)

-- of a column and of what is read after it
next_of_row : {A B : Type 0} (a : FromColumn A) → ColumnLaw a → (place : ℕ) (row : List Value) (f : A → Result B RowFault) → ((x : A) → IfErr (f x) IsOfRow) → IfErr (column_from_row a place row >>= f) IsOfRow
next_of_row a law place row f rest = steps_of_row (column_from_row a place row) f (column_of_row a law place row) rest

pub pair_of_row : {A B : Type 0} (a : FromColumn A) (b : FromColumn B) → ColumnLaw a → ColumnLaw b → (row : List Value) → IfErr (pair_from_row a b row) IsOfRow
pair_of_row {A} {B} a b of_a of_b row =
    next_of_row {B = A × B} a of_a 0 row (λ (x : A). column_from_row b 1 row >>= λ (y : B). Ok (x, y))
    (λ x. next_of_row {B = A × B} b of_b 1 row (λ (y : B). Ok (x, y)) (λ y. tt))

pub triple_of_row : {A B C : Type 0} (a : FromColumn A) (b : FromColumn B) (c : FromColumn C) → ColumnLaw a → ColumnLaw b → ColumnLaw c → (row : List Value) → IfErr (triple_from_row a b c row) IsOfRow
triple_of_row {A} {B} {C} a b c of_a of_b of_c row =
    next_of_row {B = A × B × C} a of_a 0 row (λ (x : A). column_from_row b 1 row >>= λ (y : B). column_from_row c 2 row >>= λ (z : C). Ok (x, y, z))
    (λ x. next_of_row {B = A × B × C} b of_b 1 row (λ (y : B). column_from_row c 2 row >>= λ (z : C). Ok (x, y, z))
    (λ y. next_of_row {B = A × B × C} c of_c 2 row (λ (z : C). Ok (x, y, z)) (λ z. tt)))

pub quadruple_of_row : {A B C D : Type 0} (a : FromColumn A) (b : FromColumn B) (c : FromColumn C) (d : FromColumn D) → ColumnLaw a → ColumnLaw b → ColumnLaw c → ColumnLaw d → (row : List Value) → IfErr (quadruple_from_row a b c d row) IsOfRow
quadruple_of_row {A} {B} {C} {D} a b c d of_a of_b of_c of_d row =
    next_of_row {B = A × B × C × D} a of_a 0 row (λ (x : A). column_from_row b 1 row >>= λ (y : B). column_from_row c 2 row >>= λ (z : C). column_from_row d 3 row >>= λ (w : D). Ok (x, y, z, w))
    (λ x. next_of_row {B = A × B × C × D} b of_b 1 row (λ (y : B). column_from_row c 2 row >>= λ (z : C). column_from_row d 3 row >>= λ (w : D). Ok (x, y, z, w))
    (λ y. next_of_row {B = A × B × C × D} c of_c 2 row (λ (z : C). column_from_row d 3 row >>= λ (w : D). Ok (x, y, z, w))
    (λ z. next_of_row {B = A × B × C × D} d of_d 3 row (λ (w : D). Ok (x, y, z, w)) (λ w. tt))))
