-- What a transaction with a closure does.
use Rattle.std.specs.Prelude.{◌≡◌, Bool, true, false, not, MatchBool, Option, IfSome, Result, Ok, Err, MatchResult, IsErrAnd, ◌⊎◌}
use Rattle.conn_result.specs.declared.error.Error.{Error}
use Rattle.conn_result.specs.declared.error.Error.TheVariants.{BrokenTransactionManager}
use Rattle.conn_model.specs.Beginnings.{form_text}
use Rattle.conn_model.specs.Process.{Process}
use Rattle.conn_model.specs.declared.item.Dialect.{Dialect}
use Rattle.conn_model.specs.declared.transaction.BlockForm.{BlockForm}
use Rattle.conn_model.specs.declared.transaction.BlockForm.TheVariants.{Immediate, Exclusive, Build}
use Rattle.conn_manager.specs.Manages.{Done, Reply, begin_process, begin_sql_process, commit_process, rollback_process}
use Rattle.conn_manager.specs.Statuses.{Status}
use Rattle.conn_manager.specs.Views.{View, TellsOrMemoryFrom, KeepsCache}
use Rattle.conn_manager.specs.declared.rollback_errors.RollbackErrors.{RollbackErrors}
use Rattle.conn_manager.specs.declared.rollback_errors.RollbackErrors.TheVariants.{All, AllButBroken}

-- the answer of a manager in error
abbrev pub is_broken_error : Error → Bool
is_broken_error BrokenTransactionManager = true
is_broken_error _ = false

-- whether an error of the rollback after a closure's error is one of those that are answered in its place
abbrev pub includes : RollbackErrors → Error → Bool
includes All r = true
includes AllButBroken r = not (is_broken_error r)

-- those of a transaction of this form
abbrev pub form_errors : BlockForm → RollbackErrors
form_errors Immediate = All
form_errors Exclusive = All
form_errors (Build c) = AllButBroken

-- where a begin is due to be refused in the status at entry, its error is the answer, and nothing was sent, told or changed
abbrev pub RefusesBlockAt : {C T E : Type 0} → (C → View) → (Error → E → Type 0) → (Status → Option Error) → C → C → Result T E → Type 0
RefusesBlockAt view from fault old new result = IfSome (fault (view old).status) (λ e. IsErrAnd result (from e) × (view new ≡ view old))

-- connections with their views, what the closure may answer on one and how it may leave it, and what stands for the manager's
-- errors among the closure's
module _ {C T E : Type 0} (honest : Bool) (view : C → View) (called : C → Result T E → C → Type 0) (from : Error → E → Type 0) where
  -- a call of the manager, which leaves the cache; where it wants memory it does, tells and changes nothing
  abbrev pub Calls : (Dialect → Status → Process Done) → C → C → Reply → Type 0
  Calls process old new reply = TellsOrMemoryFrom honest process (view old) (view new) reply × KeepsCache (view old) (view new)

  -- after the closure's error: that error, or one of these of the rollback in its place
  abbrev pub after_rollback : RollbackErrors → E → Reply → Result T E → Type 0
  after_rollback errors e (Ok u) result = result ≡ Err e
  after_rollback errors e (Err r) result = MatchBool (includes errors r) (IsErrAnd result (from r)) (result ≡ Err e)

  -- after the closure's answer: a commit, whose error stands in the place of its value, or a rollback
  abbrev pub ClosesBlock : RollbackErrors → C → C → Result T E → Result T E → Type 0
  ClosesBlock errors old new (Ok v) result = (reply : Reply) × Calls commit_process old new reply × MatchResult reply (λ _. result ≡ Ok v) (λ e. IsErrAnd result (from e))
  ClosesBlock errors old new (Err e) result = (reply : Reply) × Calls rollback_process old new reply × after_rollback errors e reply result

  -- in a transaction that has begun the closure was called once, and what closes works on the connection as the closure left it
  pub record RunsBegun (errors : RollbackErrors) (old new : C) (result : Result T E) : Type 0 where
    pub after : C
    pub answer : Result T E
    pub calls : called old answer after
    pub closes : ClosesBlock errors after new answer result

  -- by what begins a transaction
  module _ (begin : Dialect → Status → Process Done) where
    -- the begin answered an error, which is the answer, and the closure wasn't called
    pub record FailsToBegin (old new : C) (result : Result T E) : Type 0 where
      pub error : Error
      pub begins : Calls begin old new (Err error)
      pub answers : IsErrAnd result (from error)

    -- the begin was Ok, and the rest works on the connection as it left it
    pub record RunsBlock (errors : RollbackErrors) (old new : C) (result : Result T E) : Type 0 where
      pub before : C
      pub begins : Calls begin old before (Ok tt)
      pub runs : RunsBegun errors before new result

    -- a transaction that the closure's answer keeps or drops
    abbrev pub Transacts : RollbackErrors → C → C → Result T E → Type 0
    Transacts errors old new result = FailsToBegin old new result ⊎ RunsBlock errors old new result

  -- a transaction that begins by the text of this form
  abbrev pub TransactsAs : BlockForm → C → C → Result T E → Type 0
  TransactsAs form = Transacts (λ d. begin_sql_process d (form_text form)) (form_errors form)

  -- the closure was called once, as above; its answer is the answer, and a rollback follows, whose answer isn't told
  pub record RunsTest (old new : C) (result : Result T E) : Type 0 where
    pub before : C
    pub after : C
    pub reply : Reply
    pub begins : Calls begin_process old before (Ok tt)
    pub calls : called before result after
    pub closes : Calls rollback_process after new reply

  -- a transaction that is dropped whatever the closure answers
  abbrev pub TestTransacts : C → C → Result T E → Type 0
  TestTransacts old new result = FailsToBegin begin_process old new result ⊎ RunsTest old new result
