-- A block that closes keeps the invariant, and the stack of the fold: its level goes where it isn't kept.
use Rattle.std.proofs.Common.{◌≡◌, Bool, true, false, if◌then◌else◌, List, length, refl, sym, ap, subst, ◌∙◌, Some, None, Ok, Err}
use Rattle.std.specs.List.{list_any}
use Rattle.conn_result.specs.declared.error.Error.{Error}
use Rattle.conn_model.specs.Process.{map_process}
use Rattle.conn_model.specs.States.{State, Idle, Open, Lost}
use Rattle.conn_model.specs.declared.item.Dialect.{Dialect}
use Rattle.conn_model.specs.declared.item.Item.{Item}
use Rattle.conn_model.specs.declared.transaction.BlockForm.{BlockForm}
use Rattle.conn_manager.specs.Manages.{Done, Reply, commit_in, commit_process, rollback_in, rollback_process}
use Rattle.conn_manager.specs.Statuses.{Status, valid, no_depth}
use Rattle.conn_manager.specs.declared.rollback_errors.RollbackErrors.{RollbackErrors}
use Rattle.conn_manager.specs.declared.rollback_errors.RollbackErrors.TheVariants.{AllButBroken}
use Rattle.conn_manager.specs.declared.status.TransactionManagerStatus.TheVariants.{Valid, InError}
use Rattle.conn_manager.specs.Transactions.{form_errors, includes}
use Rattle.conn_script.specs.declared.command.BlockKind.{BlockKind}
use Rattle.conn_script.specs.declared.command.BlockKind.TheVariants.{Plain, Test, Form}
use Rattle.conn_reading.specs.Asking.{rollback_answer, with_answer, close_process, keep_process}
use Rattle.conn_reading.specs.Folds.{Stack, Nested, HasDepth, dropped, Closes, after_items, after_reply, KeepsLive, refuses_transaction}
use Rattle.conn_reading.specs.Histories.{left_status}
use Rattle.conn_reading.specs.Reading.{Reads}
use Rattle.conn_reading.specs.Verdicts.{Part, Holds}
use Rattle.conn_reading.proofs.Ending.{commit_safe, rollback_safe}
use Rattle.conn_reading.proofs.Folding.{commit_at, rollback_at, stopped}
use Rattle.conn_reading.proofs.ItemsRead.{reads_unmap}
use Rattle.conn_reading.proofs.Safe.{Safe, safe_map}

keep_safe : (d : Dialect) (errors : RollbackErrors) (answer : Reply) (S : Status) (s : State) (p : Part) → Holds d S s p → Safe d left_status s p (keep_process errors answer d S)
keep_safe d errors (Ok u) S s p h = commit_safe d S s p h
keep_safe d errors (Err e) S s p h = safe_map d left_status left_status (with_answer (rollback_answer errors e)) (λ a t q m. m) s p (rollback_process d S) (rollback_safe d S s p h)

pub close_safe : (d : Dialect) (kind : BlockKind) (answer : Reply) (S : Status) (s : State) (p : Part) → Holds d S s p → Safe d left_status s p (close_process kind answer d S)
close_safe d Plain answer S s p h = keep_safe d AllButBroken answer S s p h
close_safe d (Form form) answer S s p h = keep_safe d (form_errors form) answer S s p h
close_safe d Test answer S s p h = safe_map d left_status left_status (with_answer (λ _. answer)) (λ a t q m. m) s p (rollback_process d S) (rollback_safe d S s p h)

-- ---- the stack

-- where the status has no depth the stack has one list
no_level : (S : Status) (s : State) (k : Stack) → (HasDepth S (length k.levels) → ⊥) → Nested S s k → dropped k ≡ k
no_level S (Idle w) k none n = rw n refl
no_level S (Lost w) k none n = rw n refl
no_level S (Open o) k none n = absurd (none n.0)

-- a block that commits
commit_closes : (d : Dialect) (S : Status) (s : State) (p : Part) (items : List Item) (a : Done) (s' : State) (k : Stack) → Holds d S s p → Nested S s k → Reads d s (commit_process d S) items a s'
    → list_any refuses_transaction items ≡ false → KeepsLive (Closes Plain) a.reply (after_items items k) → Nested a.status s' (after_reply (Closes Plain) a.reply (after_items items k))
commit_closes d InError s p items a s' k h n reads none live =
    let e = stopped d s _ items a s' reads in rw (e.0, e.1, e.2, no_level InError s k (λ x. x) n) n
commit_closes d (Valid v) s p items a s' k h n reads none live =
    elim v.in_transaction as (λ o. Holds d (valid o) s p → Nested (valid o) s k → Reads d s (commit_in d (valid o) o) items a s' → Nested a.status s' (after_reply (Closes Plain) a.reply (after_items items k))) [
      | None ↦ (λ g m r. let e = stopped d s _ items a s' r in rw (e.0, e.1, e.2, no_level no_depth s k (λ x. x) m) m)
      | Some t ↦ (λ g m r. let e = commit_at d t s p items a s' k g m r none in rw e.reply (e.nests (rw e.reply at live)))
    ] h n reads

-- a block that rolls back: its level goes, whatever is answered
rollback_closes : (d : Dialect) (S : Status) (s : State) (p : Part) (items : List Item) (a : Done) (s' : State) (k : Stack) → Holds d S s p → Nested S s k → Reads d s (rollback_process d S) items a s'
    → list_any refuses_transaction items ≡ false → Nested a.status s' (dropped (after_items items k))
rollback_closes d InError s p items a s' k h n reads none =
    let e = stopped d s _ items a s' reads in rw (e.0, e.1, e.2, no_level InError s k (λ x. x) n) n
rollback_closes d (Valid v) s p items a s' k h n reads none =
    elim v.in_transaction as (λ o. Holds d (valid o) s p → Nested (valid o) s k → Reads d s (rollback_in d (valid o) o) items a s' → Nested a.status s' (dropped (after_items items k))) [
      | None ↦ (λ g m r. let e = stopped d s _ items a s' r in rw (e.0, e.1, e.2, no_level no_depth s k (λ x. x) m) m)
      | Some t ↦ (λ g m r. (rollback_at d t s p items a s' k g m r none).nests tt)
    ] h n reads

-- with another answer
answered_closes : (d : Dialect) (f : Reply → Reply) (S : Status) (s : State) (p : Part) (items : List Item) (a : Done) (s' : State) (k : Stack) → Holds d S s p → Nested S s k → Reads d s (map_process (with_answer f) (rollback_process d S)) items a s'
    → list_any refuses_transaction items ≡ false → (r : Reply) × (a.reply ≡ f r) × Nested a.status s' (dropped (after_items items k))
answered_closes d f S s p items a s' k h n reads none =
    let u = reads_unmap (with_answer f) d s (rollback_process d S) items a s' reads in
    let closed : Nested u.value.status s' (dropped (after_items items k)) = rollback_closes d S s p items u.value s' k h n u.reads none in
    (u.value.reply, ap (λ (x : Done). x.reply) u.made, subst (λ (x : Done). Nested x.status s' (dropped (after_items items k))) (sym u.made) closed)

-- the answer of a block that got an error is one
error_answered : (errors : RollbackErrors) (e : Error) (r : Reply) (k : Stack) → after_reply (Closes Plain) (rollback_answer errors e r) k ≡ dropped k
error_answered errors e (Ok u) k = refl
error_answered errors e (Err r) k = by_test (includes errors r)
  where
    by_test : (b : Bool) → after_reply (Closes Plain) (if b then Err r else Err e) k ≡ dropped k
    by_test true = refl
    by_test false = refl

-- a block that is no test's
keep_folds : (d : Dialect) (errors : RollbackErrors) (answer : Reply) (S : Status) (s : State) (p : Part) (items : List Item) (a : Done) (s' : State) (k : Stack) → Holds d S s p → Nested S s k → Reads d s (keep_process errors answer d S) items a s'
    → list_any refuses_transaction items ≡ false → KeepsLive (Closes Plain) a.reply (after_items items k) → Nested a.status s' (after_reply (Closes Plain) a.reply (after_items items k))
keep_folds d errors (Ok u) S s p items a s' k h n reads none live = commit_closes d S s p items a s' k h n reads none live
keep_folds d errors (Err e) S s p items a s' k h n reads none live =
    let c = answered_closes d (rollback_answer errors e) S s p items a s' k h n reads none in
    subst (λ (x : Stack). Nested a.status s' x) (sym (ap (λ (r : Reply). after_reply (Closes Plain) r (after_items items k)) c.1 ∙ error_answered errors e c.0 (after_items items k))) c.2

-- however it began
same_reply : (form : BlockForm) (r : Reply) (k : Stack) → after_reply (Closes (Form form)) r k ≡ after_reply (Closes Plain) r k
same_reply form (Ok u) k = refl
same_reply form (Err e) k = refl

same_live : (form : BlockForm) (r : Reply) (k : Stack) → KeepsLive (Closes (Form form)) r k → KeepsLive (Closes Plain) r k
same_live form (Ok u) k live = live
same_live form (Err e) k live = tt

pub close_folds : (d : Dialect) (kind : BlockKind) (answer : Reply) (S : Status) (s : State) (p : Part) (items : List Item) (a : Done) (s' : State) (k : Stack) → Holds d S s p → Nested S s k → Reads d s (close_process kind answer d S) items a s'
    → list_any refuses_transaction items ≡ false → KeepsLive (Closes kind) a.reply (after_items items k) → Nested a.status s' (after_reply (Closes kind) a.reply (after_items items k))
close_folds d Plain answer S s p items a s' k h n reads none live = keep_folds d AllButBroken answer S s p items a s' k h n reads none live
close_folds d (Form form) answer S s p items a s' k h n reads none live =
    subst (λ (x : Stack). Nested a.status s' x) (sym (same_reply form a.reply (after_items items k))) (keep_folds d (form_errors form) answer S s p items a s' k h n reads none (same_live form a.reply (after_items items k) live))
close_folds d Test answer S s p items a s' k h n reads none live = (answered_closes d (λ _. answer) S s p items a s' k h n reads none).2
