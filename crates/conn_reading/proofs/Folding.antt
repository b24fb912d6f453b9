-- Each call of the manager keeps the stack of the fold, where none of its texts is refused.
use Rattle.std.proofs.Common.{◌≡◌, ℕ, ◌+◌, ◌-◌, ◌<◌, Bool, true, false, ◌||◌, ◌&&◌, if◌then◌else◌, nat_lt, List, [], ◌∷◌, codes, refl, sym, ap, ◌∙◌, subst, Option, Some, None, Ok, Err, arith}
use Rattle.std.specs.Bool.{⊤}
use Rattle.std.specs.List.{list_any}
use Rattle.std.proofs.lemmas.Bool.Decides.{nat_tests}
use Rattle.conn_result.specs.declared.error.Error.TheVariants.{DepthExhausted}
use Rattle.conn_model.specs.Classes.{class}
use Rattle.conn_model.proofs.Names.{class-begin, class-savepoint}
use Rattle.conn_model.specs.Events.{BeginTransaction}
use Rattle.conn_model.specs.Nuls.{nul_fault}
use Rattle.conn_model.specs.Process.{Process, Stop, Tell, refusal_of}
use Rattle.conn_model.specs.States.{State, Idle, Open, Lost, step_by, told_of, accepts}
use Rattle.conn_model.specs.declared.class.Class.{Class}
use Rattle.conn_model.specs.declared.class.Class.TheVariants as of
use Rattle.conn_model.specs.declared.item.Answer.{Answer}
use Rattle.conn_model.specs.declared.item.Answer.TheVariants.{Accepted, Refused}
use Rattle.conn_model.specs.declared.item.Call.{Call}
use Rattle.conn_model.specs.declared.item.Call.TheVariants.{Exec}
use Rattle.conn_model.specs.declared.item.Dialect.{Dialect}
use Rattle.conn_model.specs.declared.item.Item.{Item}
use Rattle.conn_manager.specs.Manages.{Done, done, Reply, ask_text, begun, begin_with, begin_in, begin_process, begin_sql_process, begin_sql_in, try_text, savepoint_text, lowered, rollback_text, commit_text, rolled_back, rollback_in, rollback_process, committed, commit_in, commit_process}
use Rattle.conn_manager.specs.Statuses.{Status, valid, retold, no_depth, at_depth, reply_of}
use Rattle.conn_manager.specs.declared.status.InTransactionStatus.{InTransactionStatus}
use Rattle.conn_manager.specs.declared.status.TransactionManagerStatus.TheVariants.{Valid, InError}
use Rattle.conn_reading.specs.Folds.{Level, Stack, Nested, pushed, merged, dropped, IsDoomed, is_write_class, is_transaction_class, after_item, after_items, Begins, Commits, Rolls, after_reply, refuses_transaction, sets, SetsInOpen}
use Rattle.conn_reading.specs.Reading.{Reads}
use Rattle.conn_reading.specs.Verdicts.{Part, Holds, is_refused_by, runs_class}
use Rattle.conn_reading.proofs.Ending.{ending_lowers, ending_is, ending_class}
use Rattle.conn_reading.proofs.Nesting.{begin_nests, savepoint_nests, release_nests, return_nests, commit_nests, rollback_nests}

-- a text of the manager was accepted, and nothing more was sent
pub record Takes (d : Dialect) (s : State) (text : List ℕ) (S : Status) (f : Status → Done) (items : List Item) (a : Done) (s' : State) : Type 0 where
  pub item : Item
  pub only : items ≡ item ∷ []
  pub call_is : item.call ≡ Exec
  pub text_is : item.text ≡ text
  pub accepted : item.answer ≡ Accepted
  pub is : accepts d s text ≡ Some s'
  pub ends : a ≡ f (retold d None (told_of d s') S)

pub stopped : (d : Dialect) (s : State) (x : Done) (items : List Item) (a : Done) (s' : State) → Reads d s (Stop x) items a s' → (items ≡ []) × (a ≡ x) × (s' ≡ s)
stopped d s x [] a s' reads = (refl, reads.0, reads.1)
stopped d s x (i ∷ is) a s' reads = absurd reads

takes_by : (d : Dialect) (s mid : State) (S : Status) (text : List ℕ) (next : Reply → Status → Process Done) (f : Status → Done) (i : Item) (is : List Item) (a : Done) (s' : State) (answer : Answer) (rest : Bool)
    → ((S1 : Status) → next (Ok tt) S1 ≡ Stop (f S1)) → i.call ≡ Exec → i.text ≡ text → i.answer ≡ answer → step_by d s Exec text answer ≡ Some mid → ((is_refused_by answer && true) || rest) ≡ false
    → Reads d mid (next (reply_of (refusal_of answer)) (retold d (refusal_of answer) (told_of d mid) S)) is a s' → Takes d s text S f (i ∷ is) a s'
takes_by d s mid S text next f i is a s' (Refused x e) rest to_stop c t b step none reads = absurd (cc)
takes_by d s mid S text next f i is a s' Accepted rest to_stop c t b step none reads =
    let S1 : Status = retold d None (told_of d mid) S in
    let e = stopped d mid (f S1) is a s' (subst (λ (p : Process Done). Reads d mid p is a s') (to_stop S1) reads) in
    record {
      item = i;
      only = ap (λ (x : List Item). i ∷ x) e.0;
      call_is = c;
      text_is = t;
      accepted = b;
      is = step ∙ ap (λ (x : State). Some x) (sym e.2);
      ends = e.1 ∙ ap (λ (x : State). f (retold d None (told_of d x) S)) (sym e.2);
    }

takes : (d : Dialect) (s : State) (S : Status) (text : List ℕ) (next : Reply → Status → Process Done) (f : Status → Done) (items : List Item) (a : Done) (s' : State)
    → ((S1 : Status) → next (Ok tt) S1 ≡ Stop (f S1)) → is_transaction_class (class text) ≡ true → list_any refuses_transaction items ≡ false → Reads d s (ask_text d text S next) items a s' → Takes d s text S f items a s'
takes d s S text next f [] a s' to_stop c none reads = absurd reads
takes d s S text next f (i ∷ is) a s' to_stop c none reads =
    let stepped : step_by d s Exec text i.answer ≡ Some reads.2.0 =
    (subst (λ (t : List ℕ). step_by d s Exec t i.answer ≡ Some reads.2.0) reads.1 (subst (λ (x : Call). step_by d s x i.text i.answer ≡ Some reads.2.0) reads.0 reads.2.1)) in
    let runs : runs_class is_transaction_class i.call i.text ≡ true =
    (ap (λ (x : Call). runs_class is_transaction_class x i.text) reads.0 ∙ ap (λ (t : List ℕ). is_transaction_class (class t)) reads.1 ∙ c) in
    let known : ((is_refused_by i.answer && true) || list_any refuses_transaction is) ≡ false = subst (λ (b : Bool). ((is_refused_by i.answer && b) || list_any refuses_transaction is) ≡ false) runs none in
    takes_by d s reads.2.0 S text next f i is a s' i.answer (list_any refuses_transaction is) to_stop reads.0 reads.1 refl stepped known reads.2.2.1

-- it changes no list by itself
transaction_not_write : (c : Class) → is_transaction_class c ≡ true → is_write_class c ≡ false
transaction_not_write of.Write h = absurd (cc)
transaction_not_write of.Begin h = refl
transaction_not_write of.Commit h = refl
transaction_not_write (of.Savepoint k) h = refl
transaction_not_write (of.RollbackTo k) h = refl
transaction_not_write (of.Release k) h = refl
transaction_not_write of.Rollback h = refl
transaction_not_write of.Other h = refl

untouched_by : (i : Item) (text : List ℕ) (k : Stack) (answer : Answer) → answer ≡ Accepted → i.answer ≡ answer → i.call ≡ Exec → i.text ≡ text → is_transaction_class (class text) ≡ true → after_item i k ≡ k
untouched_by i text k (Refused x e) is a c t b = absurd (cc)
untouched_by i text k Accepted is a c t b =
    let w : runs_class is_write_class i.call i.text ≡ false = ap (λ (x : Call). runs_class is_write_class x i.text) c ∙ ap (λ (x : List ℕ). is_write_class (class x)) t ∙ transaction_not_write (class text) b in
    rw (a, w)

untouched : (d : Dialect) (s : State) (text : List ℕ) (S : Status) (f : Status → Done) (items : List Item) (a : Done) (s' : State) (k : Stack) → is_transaction_class (class text) ≡ true → Takes d s text S f items a s' → after_items items k ≡ k
untouched d s text S f items a s' k c t = ap (λ (is : List Item). after_items is k) t.only ∙ untouched_by t.item text k t.item.answer t.accepted refl t.call_is t.text_is c

-- ---- what begins

begun_ok : (S : Status) (mid : State) (k : Stack) → Nested (begun (Ok tt) S).status mid (pushed k) → (begun (Ok tt) S).reply ≡ Ok tt
begun_ok (Valid v) mid k n = refl
begun_ok InError (Idle w) k n = absurd (no_level (ap (λ (q : Stack). q.levels) n))
  where
    no_level : {l : Level} {ls : List Level} → l ∷ ls ≡ [] → ⊥
    no_level e = cc
begun_ok InError (Lost w) k n = absurd (no_level (ap (λ (q : Stack). q.levels) n))
  where
    no_level : {l : Level} {ls : List Level} → l ∷ ls ≡ [] → ⊥
    no_level e = cc
begun_ok InError (Open o) k n = absurd n.0

-- from what the text's acceptance gives to what the entry does
begun_entry : (d : Dialect) (s : State) (text : List ℕ) (S : Status) (items : List Item) (a : Done) (s' : State) (k : Stack) → is_transaction_class (class text) ≡ true → Takes d s text S (begun (Ok tt)) items a s'
    → Nested (begun (Ok tt) (retold d None (told_of d s') S)).status s' (pushed k) → Nested a.status s' (after_reply Begins a.reply (after_items items k))
begun_entry d s text S items a s' k c t n =
    let ok : a.reply ≡ Ok tt = ap (λ (x : Done). x.reply) t.ends ∙ begun_ok (retold d None (told_of d s') S) s' k n in
    let m : Nested a.status s' (pushed k) = subst (λ (x : Done). Nested x.status s' (pushed k)) (sym t.ends) n in
    rw (ok, untouched d s text S (begun (Ok tt)) items a s' k c t) m

pub begin_folds : (d : Dialect) (S : Status) (s : State) (p : Part) (items : List Item) (a : Done) (s' : State) (k : Stack) → Holds d S s p → Nested S s k → Reads d s (begin_process d S) items a s'
    → list_any refuses_transaction items ≡ false → SetsInOpen d s items → Nested a.status s' (after_reply Begins a.reply (after_items items k))
begin_folds d InError s p items a s' k h n reads none opens = let e = stopped d s _ items a s' reads in rw (e.0, e.1, e.2) n
begin_folds d (Valid v) s p items a s' k h n reads none opens =
    elim v.in_transaction as (λ o. Holds d (valid o) s p → Nested (valid o) s k → Reads d s (begin_in d (valid o) o) items a s' → Nested a.status s' (after_reply Begins a.reply (after_items items k))) [
      | None ↦ (λ g m r. first g m r)
      | Some t ↦ (λ g m r. deeper t (nat_lt t.transaction_depth 4294967295) refl g m r)
    ] h n reads
  where
    first : Holds d no_depth s p → Nested no_depth s k → Reads d s (begin_with d (codes "BEGIN") no_depth) items a s' → Nested a.status s' (after_reply Begins a.reply (after_items items k))
    first g m r =
        let c : is_transaction_class (class (codes "BEGIN")) ≡ true = ap is_transaction_class class-begin in
        let t = takes d s no_depth (codes "BEGIN") (λ r s1. Stop (begun r s1)) (begun (Ok tt)) items a s' (λ S1. refl) c none r in
        begun_entry d s (codes "BEGIN") no_depth items a s' k c t (begin_nests d s s' k (codes "BEGIN") class-begin g.status m t.is)

    deeper : (t : InTransactionStatus) (b : Bool) → nat_lt t.transaction_depth 4294967295 ≡ b → Holds d (at_depth t) s p → Nested (at_depth t) s k
        → Reads d s (if b then Tell (BeginTransaction (t.transaction_depth + 1)) (begin_with d (savepoint_text t.transaction_depth) (at_depth t)) else Stop (done (Err DepthExhausted) (at_depth t))) items a s' → Nested a.status s' (after_reply Begins a.reply (after_items items k))
    deeper t false is g m r = let e = stopped d s _ items a s' r in rw (e.0, e.1, e.2) m
    deeper t true is g m r =
        let high : t.transaction_depth < 4294967295 = grind (arith, nat_tests) in
        let text : List ℕ = savepoint_text t.transaction_depth in
        let sp : class text ≡ of.Savepoint t.transaction_depth = class-savepoint t.transaction_depth g.status.0 (omega (arith, high)) in
        let c : is_transaction_class (class text) ≡ true = ap is_transaction_class sp in
        let u = takes d s (at_depth t) text (λ r s1. Stop (begun r s1)) (begun (Ok tt)) items a s' (λ S1. refl) c none r in
        let o : SetsInOpen d s (u.item ∷ []) = subst (λ (x : List Item). SetsInOpen d s x) u.only opens in
        let set : sets u.item ≡ true = rw (u.accepted, u.call_is, u.text_is, sp) refl in
        begun_entry d s text (at_depth t) items a s' k c u (savepoint_nests d t s s' k text sp (o.0 set) high m u.is)

pub begin_sql_folds : (d : Dialect) (S : Status) (s : State) (p : Part) (by : List ℕ) (items : List Item) (a : Done) (s' : State) (k : Stack) → class by ≡ of.Begin → Holds d S s p → Nested S s k → Reads d s (begin_sql_process d by S) items a s'
    → list_any refuses_transaction items ≡ false → Nested a.status s' (after_reply Begins a.reply (after_items items k))
begin_sql_folds d InError s p by items a s' k opens h n reads none = let e = stopped d s _ items a s' reads in rw (e.0, e.1, e.2) n
begin_sql_folds d (Valid v) s p by items a s' k opens h n reads none =
    elim v.in_transaction as (λ o. Holds d (valid o) s p → Nested (valid o) s k → Reads d s (begin_sql_in d by (valid o) o) items a s' → Nested a.status s' (after_reply Begins a.reply (after_items items k))) [
      | None ↦ (λ g m r. tried (nul_fault d by) g m r)
      | Some t ↦ (λ g m r. let e = stopped d s _ items a s' r in rw (e.0, e.1, e.2) m)
    ] h n reads
  where
    first : Holds d no_depth s p → Nested no_depth s k → Reads d s (begin_with d by no_depth) items a s' → Nested a.status s' (after_reply Begins a.reply (after_items items k))
    first g m r =
        let c : is_transaction_class (class by) ≡ true = ap is_transaction_class opens in
        let t = takes d s no_depth by (λ r s1. Stop (begun r s1)) (begun (Ok tt)) items a s' (λ S1. refl) c none r in
        begun_entry d s by no_depth items a s' k c t (begin_nests d s s' k by opens g.status m t.is)

    tried : (place : Option ℕ) → Holds d no_depth s p → Nested no_depth s k → Reads d s (try_text place d by no_depth (λ r s1. Stop (begun r s1))) items a s' → Nested a.status s' (after_reply Begins a.reply (after_items items k))
    tried None g m r = first g m r
    tried (Some place) g m r = let e = stopped d s _ items a s' r in rw (e.0, e.1, e.2) m

-- ---- what ends

ending_is_transaction : (keeps above : Bool) (k : ℕ) → is_transaction_class (ending_class keeps above k) ≡ true
ending_is_transaction true true k = refl
ending_is_transaction true false k = refl
ending_is_transaction false true k = refl
ending_is_transaction false false k = refl

commit_nests_by : (d : Dialect) (t : InTransactionStatus) (s s' : State) (p : Part) (k : Stack) (above : Bool) → nat_lt 1 t.transaction_depth ≡ above → class (commit_text t.transaction_depth) ≡ ending_class true above (t.transaction_depth - 1) → (IsDoomed k.levels → ⊥)
    → Holds d (at_depth t) s p → Nested (at_depth t) s k → accepts d s (commit_text t.transaction_depth) ≡ Some s' → Nested (lowered t.transaction_depth (retold d None (told_of d s') (at_depth t))).status s' (merged k)
commit_nests_by d t s s' p k true test c live h n is = release_nests d t s s' k (commit_text t.transaction_depth) c (grind (arith, nat_tests)) n is
commit_nests_by d t s s' p k false test c live h n is =
    let low : 0 < t.transaction_depth = h.status.0 in
    commit_nests d t _ s s' k (commit_text t.transaction_depth) c live (grind (arith, nat_tests)) n is

rollback_nests_by : (d : Dialect) (t : InTransactionStatus) (s s' : State) (p : Part) (k : Stack) (above : Bool) → nat_lt 1 t.transaction_depth ≡ above → class (rollback_text t.transaction_depth) ≡ ending_class false above (t.transaction_depth - 1)
    → Holds d (at_depth t) s p → Nested (at_depth t) s k → accepts d s (rollback_text t.transaction_depth) ≡ Some s' → Nested (lowered t.transaction_depth (retold d None (told_of d s') (at_depth t))).status s' (dropped k)
rollback_nests_by d t s s' p k true test c h n is = return_nests d t s s' k (rollback_text t.transaction_depth) c (grind (arith, nat_tests)) n is
rollback_nests_by d t s s' p k false test c h n is =
    let low : 0 < t.transaction_depth = h.status.0 in
    rollback_nests d t _ s s' k (rollback_text t.transaction_depth) c (grind (arith, nat_tests)) n is

-- where its text is accepted a call at a depth answers Ok, and the stack is this under a premise
pub record EndsLevel (a : Done) (s' : State) (premise : Type 0) (after : Stack) : Type 0 where
  pub reply : a.reply ≡ Ok tt
  pub nests : premise → Nested a.status s' after

pub commit_at : (d : Dialect) (t : InTransactionStatus) (s : State) (p : Part) (items : List Item) (a : Done) (s' : State) (k : Stack) → Holds d (at_depth t) s p → Nested (at_depth t) s k → Reads d s (commit_in d (at_depth t) (Some t)) items a s'
    → list_any refuses_transaction items ≡ false → EndsLevel a s' (IsDoomed (after_items items k).levels → ⊥) (merged (after_items items k))
commit_at d t s p items a s' k h n reads none =
    let text : List ℕ = commit_text t.transaction_depth in
    let several : Bool = nat_lt 1 t.transaction_depth in
    let e : class text ≡ ending_class true several (t.transaction_depth - 1) = ending_is true t.transaction_depth several refl h.status.1 in
    let c : is_transaction_class (class text) ≡ true = ap is_transaction_class e ∙ ending_is_transaction true several (t.transaction_depth - 1) in
    let u = takes d s (at_depth t) text (committed d t.transaction_depth) (lowered t.transaction_depth) items a s' (λ S1. refl) c none reads in
    let same : after_items items k ≡ k = untouched d s text (at_depth t) (lowered t.transaction_depth) items a s' k c u in
    let reply : a.reply ≡ Ok tt = ap (λ (x : Done). x.reply) u.ends ∙ (ending_lowers d t s s' p true h u.is).reply in
    rw same (record { reply = reply; nests = λ live. subst (λ (x : Done). Nested x.status s' (merged k)) (sym u.ends) (commit_nests_by d t s s' p k several refl e live h n u.is) })

pub rollback_at : (d : Dialect) (t : InTransactionStatus) (s : State) (p : Part) (items : List Item) (a : Done) (s' : State) (k : Stack) → Holds d (at_depth t) s p → Nested (at_depth t) s k → Reads d s (rollback_in d (at_depth t) (Some t)) items a s'
    → list_any refuses_transaction items ≡ false → EndsLevel a s' ⊤ (dropped (after_items items k))
rollback_at d t s p items a s' k h n reads none =
    let text : List ℕ = rollback_text t.transaction_depth in
    let several : Bool = nat_lt 1 t.transaction_depth in
    let e : class text ≡ ending_class false several (t.transaction_depth - 1) = ending_is false t.transaction_depth several refl h.status.1 in
    let c : is_transaction_class (class text) ≡ true = ap is_transaction_class e ∙ ending_is_transaction false several (t.transaction_depth - 1) in
    let u = takes d s (at_depth t) text (λ r s1. Stop (rolled_back t r s1)) (lowered t.transaction_depth) items a s' (λ S1. refl) c none reads in
    let same : after_items items k ≡ k = untouched d s text (at_depth t) (lowered t.transaction_depth) items a s' k c u in
    let reply : a.reply ≡ Ok tt = ap (λ (x : Done). x.reply) u.ends ∙ (ending_lowers d t s s' p false h u.is).reply in
    rw same (record { reply = reply; nests = λ always. subst (λ (x : Done). Nested x.status s' (dropped k)) (sym u.ends) (rollback_nests_by d t s s' p k several refl e h n u.is) })

pub commit_folds : (d : Dialect) (S : Status) (s : State) (p : Part) (items : List Item) (a : Done) (s' : State) (k : Stack) → Holds d S s p → Nested S s k → Reads d s (commit_process d S) items a s'
    → list_any refuses_transaction items ≡ false → (a.reply ≡ Ok tt → IsDoomed (after_items items k).levels → ⊥) → Nested a.status s' (after_reply Commits a.reply (after_items items k))
commit_folds d InError s p items a s' k h n reads none live = let e = stopped d s _ items a s' reads in rw (e.0, e.1, e.2) n
commit_folds d (Valid v) s p items a s' k h n reads none live =
    elim v.in_transaction as (λ o. Holds d (valid o) s p → Nested (valid o) s k → Reads d s (commit_in d (valid o) o) items a s' → Nested a.status s' (after_reply Commits a.reply (after_items items k))) [
      | None ↦ (λ g m r. let e = stopped d s _ items a s' r in rw (e.0, e.1, e.2) m)
      | Some t ↦ (λ g m r. let e = commit_at d t s p items a s' k g m r none in rw e.reply (e.nests (live e.reply)))
    ] h n reads

pub rollback_folds : (d : Dialect) (S : Status) (s : State) (p : Part) (items : List Item) (a : Done) (s' : State) (k : Stack) → Holds d S s p → Nested S s k → Reads d s (rollback_process d S) items a s'
    → list_any refuses_transaction items ≡ false → Nested a.status s' (after_reply Rolls a.reply (after_items items k))
rollback_folds d InError s p items a s' k h n reads none = let e = stopped d s _ items a s' reads in rw (e.0, e.1, e.2) n
rollback_folds d (Valid v) s p items a s' k h n reads none =
    elim v.in_transaction as (λ o. Holds d (valid o) s p → Nested (valid o) s k → Reads d s (rollback_in d (valid o) o) items a s' → Nested a.status s' (after_reply Rolls a.reply (after_items items k))) [
      | None ↦ (λ g m r. let e = stopped d s _ items a s' r in rw (e.0, e.1, e.2) m)
      | Some t ↦ (λ g m r. let e = rollback_at d t s p items a s' k g m r none in rw e.reply (e.nests tt))
    ] h n reads
