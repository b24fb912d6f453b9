-- What the value of a column is in each type, or its fault, which names the column.
use Rattle.std.specs.Prelude.{ℕ, ℤ, List, Option, Some, None, Result, Ok, Err, if◌then◌else◌}
use Rattle.conn_result.specs.declared.error.RowFault.{RowFault}
use Rattle.conn_result.specs.declared.error.RowFault.TheVariants.{UnexpectedNull, WrongKind}
use Rattle.conn_model.specs.Binds.{is_within}
use Rattle.conn_model.specs.declared.value.Value.{Value}
use Rattle.conn_model.specs.declared.value.Value.TheVariants.{Null, Int, Text, Bytes}
use Rattle.conn_rows.specs.Answers.{◌>>=◌}

-- how the value of a column is read, by the column's number from 0
abbrev pub FromColumn : Type 0 → Type 0
FromColumn T = ℕ → Value → Result T RowFault

-- the fault of a value that is not of the column's kind
abbrev pub misfit : ℕ → Value → RowFault
misfit column Null = UnexpectedNull column
misfit column value = WrongKind column

-- the number of an integer: it is below the limit, and no less than its negative
abbrev pub int_from_sql : ℕ → FromColumn ℤ
int_from_sql limit column (Int i) = if is_within limit i then Ok i else Err (WrongKind column)
int_from_sql limit column value = Err (misfit column value)

-- the bytes of a text
abbrev pub text_from_sql : FromColumn (List ℕ)
text_from_sql column (Text t) = Ok t
text_from_sql column value = Err (misfit column value)

-- the bytes of a value that is bytes
abbrev pub bytes_from_sql : FromColumn (List ℕ)
bytes_from_sql column (Bytes b) = Ok b
bytes_from_sql column value = Err (misfit column value)

-- none for Null, else what the value is in the type
abbrev pub option_from_sql : {T : Type 0} → FromColumn T → FromColumn (Option T)
option_from_sql from_sql column Null = Ok None
option_from_sql from_sql column value = from_sql column value >>= λ x. Ok (Some x)
