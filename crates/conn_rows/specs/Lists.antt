-- What all rows of a query are to a reader, and what the first one is.
use Rattle.std.specs.Prelude.{List, [], ◌∷◌, Result, Ok, Err}
use Rattle.conn_result.specs.declared.error.Error.{Error}
use Rattle.conn_result.specs.declared.error.Error.TheVariants.{NotFound}
use Rattle.conn_result.specs.declared.error.RowFault.{RowFault}
use Rattle.conn_model.specs.declared.value.Value.{Value}
use Rattle.conn_rows.specs.Answers.{◌>>=◌, row_answer}

-- how a row is read: what it is, or its first fault
abbrev pub Reading : Type 0 → Type 0
Reading T = List Value → Result T RowFault

-- each row in order, up to the first fault
abbrev pub rows_read : {T : Type 0} → Reading T → List (List Value) → Result (List T) RowFault
rows_read read [] = Ok []
rows_read {T} read (row ∷ rows) = read row >>= λ (x : T). rows_read read rows >>= λ (xs : List T). Ok (x ∷ xs)

-- the answer of a list of all rows
abbrev pub list_answer : {T : Type 0} → Reading T → List (List Value) → Result (List T) Error
list_answer read rows = row_answer (rows_read read rows)

-- the answer of the first row alone
abbrev pub first_answer : {T : Type 0} → Reading T → List (List Value) → Result T Error
first_answer read [] = Err NotFound
first_answer read (row ∷ rows) = row_answer (read row)
