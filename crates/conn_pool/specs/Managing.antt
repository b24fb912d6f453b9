-- What the calls of a manager answer.
use Rattle.std.specs.Prelude.{◌≡◌, Result, MatchResult}
use Rattle.conn_result.specs.declared.error.ConnectionError.{ConnectionError as OpeningFault}
use Rattle.conn_manager.specs.Manages.{Reply}
use Rattle.conn_manager.specs.Views.{View}
use Rattle.conn_result.specs.PoolErrors.{opening_error}
use Rattle.conn_pool.specs.ErrorCauses.{asked_answer}
use Rattle.conn_result.specs.declared.pool.Error.{Error}

-- no connection was opened, and the error says why
pub record FailsToConnect {M : Type 0} (fails : M → M → OpeningFault → Type 0) (old new : M) (e : Error) : Type 0 where
  pub fault : OpeningFault
  pub failed : fails old new fault
  pub error_is : e ≡ opening_error fault

-- a connection was opened, or none
abbrev pub ConnectsBy : {M C : Type 0} → (M → M → View → Type 0) → (M → M → OpeningFault → Type 0) → (C → View) → M → M → Result C Error → Type 0
ConnectsBy opens fails view old new result = MatchResult result (λ c. opens old new (view c)) (FailsToConnect fails old new)

-- a connection was checked, it is the same one, and an error has its number
pub record Validates {M : Type 0} (checks : M → M → View → View → Reply → Type 0) (old new : M) (v w : View) (result : Result (Unit {0}) Error) : Type 0 where
  pub reply : Reply
  pub checked : checks old new v w reply
  pub same_number : w.seen.number ≡ v.seen.number
  pub result_is : result ≡ asked_answer w.seen.number reply
