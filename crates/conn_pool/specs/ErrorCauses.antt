-- Why the errors of a pool come.
use Rattle.std.specs.Prelude.{ℕ, ◌≡◌, ◌≤◌, ⊤, Bool, true, Option, Some, None, Result, Ok, Err, IfErr}
use Rattle.conn_result.specs.Causes.{Rose}
use Rattle.conn_result.specs.PoolErrors.{query_error}
use Rattle.conn_manager.specs.Manages.{Reply}
use Rattle.conn_result.specs.declared.pool.Error.{Error}
use Rattle.conn_result.specs.declared.pool.Error.TheVariants.{ConnectionError, QueryError, LeftOpen, OutOfMemory}

-- the answer of the connection of a number, as the pool's
abbrev pub asked_answer : ℕ → Reply → Result (Unit {0}) Error
asked_answer number (Ok u) = Ok tt
asked_answer number (Err e) = Err (query_error e number)

-- an error but want of memory was counted
abbrev pub IsErrorCounted : ℕ → ℕ → Error → Type 0
IsErrorCounted before now (ConnectionError e) = Rose before now
IsErrorCounted before now (QueryError e number) = Rose before now
IsErrorCounted before now (LeftOpen number) = Rose before now
IsErrorCounted before now OutOfMemory = ⊤

-- an answer's error was counted, by a count that never falls
pub record CountsErrors {T : Type 0} (before now : ℕ) (answer : Result T Error) : Type 0 where
  pub later : before ≤ now
  pub counted : IfErr answer (IsErrorCounted before now)

-- the error of a new connection: it was counted, but the customizer's own, which may refuse
abbrev pub IsNewCaused : Bool → ℕ → ℕ → Error → Type 0
IsNewCaused may_refuse before now (ConnectionError e) = Rose before now
IsNewCaused may_refuse before now (QueryError e number) = may_refuse ≡ true
IsNewCaused may_refuse before now (LeftOpen number) = Rose before now
IsNewCaused may_refuse before now OutOfMemory = ⊤

-- the error of a slot, by the connection that it kept, or by the new one
abbrev pub IsServedCaused : {C : Type 0} → Bool → Option C → ℕ → ℕ → Error → Type 0
IsServedCaused may_refuse None before now e = IsNewCaused may_refuse before now e
IsServedCaused may_refuse (Some c) before now e = IsErrorCounted before now e
