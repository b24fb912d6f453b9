-- What a block answers that closes: by its rollback, which wants no memory once it was sent.
use Rattle.std.proofs.Common.{◌≡◌, ◌≤◌, ℕ, Bool, true, false, if◌then◌else◌, nat_lt, [], ◌∷◌, List, Option, Some, None, refl, sym, ap, subst, ◌∙◌, Ok, Err, inl, inr}
use Rattle.conn_result.specs.declared.error.Error.{Error}
use Rattle.conn_result.specs.declared.error.Error.TheVariants.{OutOfMemory, NotInTransaction}
use Rattle.conn_model.proofs.Mapped.{acts_map}
use Rattle.conn_model.specs.Acts.{Acts}
use Rattle.conn_model.specs.Process.{Sent, Follows}
use Rattle.conn_model.specs.Seen.{Seen}
use Rattle.conn_model.specs.declared.item.Dialect.{Dialect}
use Rattle.conn_model.specs.declared.item.Refusal.{Refusal}
use Rattle.conn_manager.specs.Manages.{Done, done, Reply as Answer, HasServerCause, lowered, lowered_in, unrolled, unrolled_in, rolled_back, rollback_in, rollback_process}
use Rattle.conn_manager.specs.Statuses.{Status, no_depth, reply_of}
use Rattle.conn_manager.specs.Transactions.{includes}
use Rattle.conn_manager.specs.Views.{View, ActsOrMemoryFrom}
use Rattle.conn_manager.specs.declared.rollback_errors.RollbackErrors.{RollbackErrors}
use Rattle.conn_manager.specs.declared.rollback_errors.RollbackErrors.TheVariants.{All, AllButBroken}
use Rattle.conn_manager.specs.declared.status.InTransactionStatus.{InTransactionStatus}
use Rattle.conn_manager.specs.declared.status.TransactionManagerStatus.TheVariants.{Valid, InError}
use Rattle.conn_reading.specs.Asking.{rollback_answer, with_answer, close_process, keep_process, reply_as}
use Rattle.conn_reading.specs.declared.deed.Deed.TheVariants.{Close}
use Rattle.conn_report.specs.declared.entry.Reply.TheVariants as replies
use Rattle.conn_script.specs.declared.command.BlockKind.{BlockKind}
use Rattle.conn_script.specs.declared.command.BlockKind.TheVariants.{Test}
use Rattle.conn_session.specs.Responses.{CountsRefusal, IsRefused, wants_memory}
use Rattle.conn_session.proofs.Responses.{counted_by}

-- ---- a rollback's answer

lowered_wants : (depth : ℕ) (s : Status) → wants_memory (lowered depth s).reply ≡ false
lowered_wants depth InError = refl
lowered_wants depth (Valid v) = by_depth v.in_transaction
  where
    by_depth : (o : Option InTransactionStatus) → wants_memory (lowered_in depth o).reply ≡ false
    by_depth (Some t) = refl
    by_depth None = elim (nat_lt 1 depth) as (λ b. wants_memory (let D : Type 0 = Done in let a : D = if b then done (Err NotInTransaction) no_depth else done (Ok tt) no_depth in a.reply) ≡ false) [ true ↦ refl | false ↦ refl ]

unrolled_wants : (t : InTransactionStatus) (e : Error) (s : Status) → wants_memory (Err e) ≡ false → wants_memory (unrolled t e s).reply ≡ false
unrolled_wants t e InError h = h
unrolled_wants t e (Valid v) h = by_depth v.in_transaction
  where
    flagged : (b : Bool) → wants_memory (if b then Ok tt else Err e) ≡ false
    flagged true = refl
    flagged false = h

    deeper : (b : Bool) (x : Answer) (s : Status) → wants_memory x ≡ false → wants_memory (let D : Type 0 = Done in let a : D = if b then done x s else done (Err e) InError in a.reply) ≡ false
    deeper true x s g = g
    deeper false x s g = h

    by_depth : (o : Option InTransactionStatus) → wants_memory (unrolled_in t e o).reply ≡ false
    by_depth None = h
    by_depth (Some u) = deeper (nat_lt 1 u.transaction_depth) _ _ (flagged t.requires_rollback_maybe_up_to_top_level)

rolled_wants : (t : InTransactionStatus) (r : Option Refusal) (s : Status) → wants_memory (rolled_back t (reply_of r) s).reply ≡ false
rolled_wants t None s = lowered_wants t.transaction_depth s
rolled_wants t (Some r) s = unrolled_wants t _ s refl

rollback_wants : (d : Dialect) (S : Status) (sent : List Sent) (a : Done) → Follows (rollback_process d S) sent a → wants_memory a.reply ≡ false
rollback_wants d InError [] a h = rw h refl
rollback_wants d InError (i ∷ is) a h = absurd h
rollback_wants d (Valid v) sent a h =
    elim v.in_transaction as (λ o. Follows (rollback_in d (Valid v) o) sent a → wants_memory a.reply ≡ false) [
      | None ↦ (λ g. outside sent g)
      | Some t ↦ (λ g. inside t sent g)
    ] h
  where
    outside : (sent : List Sent) → Follows (rollback_in d (Valid v) None) sent a → wants_memory a.reply ≡ false
    outside [] g = rw g refl
    outside (i ∷ is) g = absurd g

    inside : (t : InTransactionStatus) (sent : List Sent) → Follows (rollback_in d (Valid v) (Some t)) sent a → wants_memory a.reply ≡ false
    inside t [] g = absurd g
    inside t (i ∷ []) g = rw (g.1) (rolled_wants t i.heard.refusal _)
    inside t (i ∷ j ∷ is) g = absurd g.1

memory_only : (r : Answer) → wants_memory r ≡ true → r ≡ Err OutOfMemory
memory_only (Err OutOfMemory) e = refl
memory_only _ e = absurd (cc)

-- ---- a block that got an error

memory_told : (errors : RollbackErrors) (e : Error) → rollback_answer errors e (Err OutOfMemory) ≡ Err OutOfMemory
memory_told All e = refl
memory_told AllButBroken e = refl

module _ (honest : Bool) (old new : View) (r : Answer) (acts : ActsOrMemoryFrom honest rollback_process old new r) where
  pub error_closes : (errors : RollbackErrors) (e : Error) (answer : Answer) → answer ≡ rollback_answer errors e r → ActsOrMemoryFrom honest (keep_process errors (Err e)) old new answer
  error_closes errors e answer is = elim acts [
    | inl h ↦ inl (is ∙ ap (rollback_answer errors e) h.0 ∙ memory_told errors e, h.1)
    | inr a ↦ inr (subst (λ (x : Answer). Acts honest (keep_process errors (Err e) old.seen.dialect old.status) old.seen new.seen (done x new.status)) (sym is) (acts_map (with_answer (rollback_answer errors e)) honest (rollback_process old.seen.dialect old.status) old.seen new.seen (done r new.status) a))
  ]

  -- ---- a test's block

  pub test_wants : (answer : Answer) → wants_memory r ≡ true → ActsOrMemoryFrom honest (close_process Test answer) old new r
  test_wants answer e = elim acts [
    | inl h ↦ inl h
    | inr a ↦ absurd (both (wants_memory r) e (rollback_wants old.seen.dialect old.status a.sent (done r new.status) a.follows))
  ]
    where
      both : (b : Bool) → b ≡ true → b ≡ false → ⊥
      both b f g = cc

  pub test_closes : (answer : Answer) → wants_memory r ≡ false → ActsOrMemoryFrom honest (close_process Test answer) old new answer
  test_closes answer other = elim acts [
    | inl h ↦ absurd (both (ap wants_memory h.0))
    | inr a ↦ inr (acts_map (with_answer (λ _. answer)) honest (rollback_process old.seen.dialect old.status) old.seen new.seen (done r new.status) a)
  ]
    where
      both : wants_memory r ≡ true → ⊥
      both e = cc

-- ---- what was counted

-- a reply with the block's error
blocks_error : (kind : BlockKind) (old new : Seen) (e : Error) (r : Answer) → HasServerCause old new r → CountsRefusal (Close kind (Err e)) old new (replies.Error e)
blocks_error kind old new e r cause = record { later = cause.later; refused = λ h. inr refl }

pub error_counted : (kind : BlockKind) (old new : Seen) (errors : RollbackErrors) (e : Error) (r answer : Answer) → answer ≡ rollback_answer errors e r → HasServerCause old new r → CountsRefusal (Close kind (Err e)) old new (reply_as answer)
error_counted kind old new errors e r answer is cause = subst (λ (a : Answer). CountsRefusal (Close kind (Err e)) old new (reply_as a)) (sym is) (by_answer r cause)
  where
    by_answer : (r : Answer) → HasServerCause old new r → CountsRefusal (Close kind (Err e)) old new (reply_as (rollback_answer errors e r))
    by_answer (Ok u) c = blocks_error kind old new e (Ok u) c
    by_answer (Err x) c = by_test (includes errors x)
      where
        by_test : (b : Bool) → CountsRefusal (Close kind (Err e)) old new (reply_as (if b then Err x else Err e))
        by_test false = blocks_error kind old new e (Err x) c
        by_test true = counted_by (Close kind (Err e)) old new (Err x) c

pub test_counted : (old new : Seen) (answer : Answer) → old.failures ≤ new.failures → CountsRefusal (Close Test answer) old new (reply_as answer)
test_counted old new (Ok u) later = record { later = later; refused = λ h. absurd h }
test_counted old new (Err e) later = record { later = later; refused = λ h. inr refl }

pub memory_counted : (old new : Seen) (answer r : Answer) → wants_memory r ≡ true → old.failures ≤ new.failures → CountsRefusal (Close Test answer) old new (reply_as r)
memory_counted old new answer r e later = record { later = later; refused = λ h. absurd (subst (λ (x : Answer). IsRefused (reply_as x)) (memory_only r e) h) }
