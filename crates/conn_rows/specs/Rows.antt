-- What a row is in each type, or its first fault. Values behind the last column that is read are not looked at.
use Rattle.std.specs.Prelude.{ℕ, List, Result, Ok, slice_get}
use Rattle.std.specs.Option.{ok_or}
use Rattle.conn_result.specs.declared.error.RowFault.{RowFault}
use Rattle.conn_result.specs.declared.error.RowFault.TheVariants.{UnexpectedEndOfRow}
use Rattle.conn_model.specs.declared.value.Value.{Value}
use Rattle.conn_rows.specs.Answers.{◌>>=◌}
use Rattle.conn_rows.specs.Columns.{FromColumn}

-- the value of the column, from 0, where the row is long enough
abbrev pub column_from_row : {T : Type 0} → FromColumn T → ℕ → List Value → Result T RowFault
column_from_row from_sql column row = ok_or (slice_get row column) UnexpectedEndOfRow >>= from_sql column

-- the first two columns
abbrev pub pair_from_row : {A B : Type 0} → FromColumn A → FromColumn B → List Value → Result (A × B) RowFault
pair_from_row a b row = do
  x ← column_from_row a 0 row
  y ← column_from_row b 1 row
  Ok (x, y)

-- the first three columns
abbrev pub triple_from_row : {A B C : Type 0} → FromColumn A → FromColumn B → FromColumn C → List Value → Result (A × B × C) RowFault
triple_from_row a b c row = do
  x ← column_from_row a 0 row
  y ← column_from_row b 1 row
  z ← column_from_row c 2 row
  Ok (x, y, z)

-- the first four columns
abbrev pub quadruple_from_row : {A B C D : Type 0} → FromColumn A → FromColumn B → FromColumn C → FromColumn D → List Value → Result (A × B × C × D) RowFault
quadruple_from_row a b c d row = do
  x ← column_from_row a 0 row
  y ← column_from_row b 1 row
  z ← column_from_row c 2 row
  w ← column_from_row d 3 row
  Ok (x, y, z, w)
