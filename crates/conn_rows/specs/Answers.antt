-- What reading a row answers.
use Rattle.std.specs.Prelude.{◌≡◌, ◌⊎◌, ⊤, Result, Ok, Err}
use Rattle.conn_result.specs.declared.error.Error.{Error}
use Rattle.conn_result.specs.declared.error.Error.TheVariants.{DeserializationError, OutOfMemory}
use Rattle.conn_result.specs.declared.error.RowFault.{RowFault}
use Rattle.conn_result.specs.declared.error.RowFault.TheVariants.{NoMetadata}

-- the next step where there is a value, else the fault
infixl 10 ◌>>=◌
abbrev pub ◌>>=◌ : {A B : Type 0} → Result A RowFault → (A → Result B RowFault) → Result B RowFault
(Ok x) >>= f = f x
(Err fault) >>= f = Err fault

-- the value, or the fault as an error
abbrev pub row_answer : {T : Type 0} → Result T RowFault → Result T Error
row_answer (Ok x) = Ok x
row_answer (Err fault) = Err (DeserializationError fault)

-- a fault of the row, and not of its statement
abbrev pub IsOfRow : RowFault → Type 0
IsOfRow NoMetadata = ⊥
IsOfRow fault = ⊤

-- the answer is the value or the fault, but for want of memory
pub record Deserializes {T : Type 0} (read : Result T RowFault) (result : Result T Error) : Type 0 where
  pub answers : (result ≡ row_answer read) ⊎ (result ≡ Err OutOfMemory)
