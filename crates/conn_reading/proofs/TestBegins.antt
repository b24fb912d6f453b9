-- A test's begin is a begin, after which the transaction is a test's: neither the invariant nor the stack looks at that.
use Rattle.std.proofs.Common.{◌≡◌, false, List, refl, sym, subst, Option, Some, None, Ok, Err}
use Rattle.std.specs.List.{list_any}
use Rattle.conn_model.specs.States.{State, Idle, Open, Lost}
use Rattle.conn_model.specs.declared.item.Dialect.{Dialect}
use Rattle.conn_model.specs.declared.item.Item.{Item}
use Rattle.conn_manager.specs.Manages.{Done, Reply, with_test_mark, with_test_mark_in, begin_in, begin_test_in, begin_test_process}
use Rattle.conn_manager.specs.Statuses.{Status, valid, no_depth, set_test_mark, set_test_mark_in}
use Rattle.conn_manager.specs.declared.status.InTransactionStatus.{InTransactionStatus}
use Rattle.conn_manager.specs.declared.status.TransactionManagerStatus.TheVariants.{Valid, InError}
use Rattle.conn_reading.specs.Folds.{Stack, Nested, HasDepth, HasDepthIn, Begins, after_items, after_reply, refuses_transaction, SetsInOpen}
use Rattle.conn_reading.specs.Histories.{left_status}
use Rattle.conn_reading.specs.Reading.{Reads}
use Rattle.conn_reading.specs.Verdicts.{Part, Holds, HoldsIn, HoldsOf}
use Rattle.conn_reading.proofs.Beginning.{begin_safe}
use Rattle.conn_reading.proofs.Folding.{begin_folds, stopped}
use Rattle.conn_reading.proofs.ItemsRead.{reads_unmap}
use Rattle.conn_reading.proofs.Safe.{Safe, safe_map}

-- ---- the mark

marked_holds_in : (d : Dialect) (o : Option InTransactionStatus) (s : State) (p : Part) → HoldsIn d o s p → HoldsIn d (set_test_mark_in o) s p
marked_holds_in d None s p h = h
marked_holds_in d (Some t) (Idle w) p h = h
marked_holds_in d (Some t) (Open o) p h = h
marked_holds_in d (Some t) (Lost w) p h = h

marked_holds_of : (d : Dialect) (S : Status) (s : State) (p : Part) → HoldsOf d S s p → HoldsOf d (set_test_mark S) s p
marked_holds_of d (Valid v) s p h = marked_holds_in d v.in_transaction s p h
marked_holds_of d InError s p h = h

marked_holds : (d : Dialect) (r : Reply) (S : Status) (s : State) (p : Part) → Holds d S s p → Holds d (with_test_mark_in r S).status s p
marked_holds d (Ok u) S s p h = record { lost = h.lost; status = marked_holds_of d S s p h.status }
marked_holds d (Err e) S s p h = h

marked_depth_in : (o : Option InTransactionStatus) (n : _) → HasDepthIn o n → HasDepthIn (set_test_mark_in o) n
marked_depth_in None n h = h
marked_depth_in (Some t) n h = h

marked_depth : (S : Status) (n : _) → HasDepth S n → HasDepth (set_test_mark S) n
marked_depth (Valid v) n h = marked_depth_in v.in_transaction n h
marked_depth InError n h = h

marked_nests : (r : Reply) (S : Status) (s : State) (k : Stack) → Nested S s k → Nested (with_test_mark_in r S).status s k
marked_nests (Err e) S s k n = n
marked_nests (Ok u) S (Idle w) k n = n
marked_nests (Ok u) S (Open o) k n = (marked_depth S _ n.0, n.1)
marked_nests (Ok u) S (Lost w) k n = n

marked_reply : (r : Reply) (S : Status) → (with_test_mark_in r S).reply ≡ r
marked_reply (Ok u) S = refl
marked_reply (Err e) S = refl

-- ---- the call

pub test_begin_safe : (d : Dialect) (S : Status) (s : State) (p : Part) → Holds d S s p → Safe d left_status s p (begin_test_process d S)
test_begin_safe d InError s p h = h
test_begin_safe d (Valid v) s p h =
    elim v.in_transaction as (λ o. Holds d (valid o) s p → Safe d left_status s p (begin_test_in d (valid o) o)) [
      | None ↦ (λ g. safe_map d left_status left_status with_test_mark (λ a t q m. marked_holds d a.reply a.status t q m) s p (begin_in d no_depth None) (begin_safe d no_depth s p g))
      | Some t ↦ (λ g. g)
    ] h

pub test_begin_folds : (d : Dialect) (S : Status) (s : State) (p : Part) (items : List Item) (a : Done) (s' : State) (k : Stack) → Holds d S s p → Nested S s k → Reads d s (begin_test_process d S) items a s'
    → list_any refuses_transaction items ≡ false → SetsInOpen d s items → Nested a.status s' (after_reply Begins a.reply (after_items items k))
test_begin_folds d InError s p items a s' k h n reads none opens = let e = stopped d s _ items a s' reads in rw (e.0, e.1, e.2) n
test_begin_folds d (Valid v) s p items a s' k h n reads none opens =
    elim v.in_transaction as (λ o. Holds d (valid o) s p → Nested (valid o) s k → Reads d s (begin_test_in d (valid o) o) items a s' → Nested a.status s' (after_reply Begins a.reply (after_items items k))) [
      | None ↦ (λ g m r. first g m r)
      | Some t ↦ (λ g m r. let e = stopped d s _ items a s' r in rw (e.0, e.1, e.2) m)
    ] h n reads
  where
    first : Holds d no_depth s p → Nested no_depth s k → Reads d s (begin_test_in d no_depth None) items a s' → Nested a.status s' (after_reply Begins a.reply (after_items items k))
    first g m r =
        let u = reads_unmap with_test_mark d s (begin_in d no_depth None) items a s' r in
        let begun : Nested u.value.status s' (after_reply Begins u.value.reply (after_items items k)) = begin_folds d no_depth s p items u.value s' k g m u.reads none opens in
        let after : Nested (with_test_mark u.value).status s' (after_reply Begins (with_test_mark u.value).reply (after_items items k)) =
        subst (λ (x : Reply). Nested (with_test_mark u.value).status s' (after_reply Begins x (after_items items k))) (sym (marked_reply u.value.reply u.value.status)) (marked_nests u.value.reply u.value.status s' _ begun) in
        subst (λ (x : Done). Nested x.status s' (after_reply Begins x.reply (after_items items k))) (sym u.made) after
