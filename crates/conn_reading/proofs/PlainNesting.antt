-- Calls that send texts which ask nothing of a transaction keep the stack of the fold.
use Rattle.std.proofs.Common.{◌≡◌, ℕ, Bool, true, false, if◌then◌else◌, List, [], ◌∷◌, ◌++◌, length, refl, sym, ap, ◌∙◌, subst, Option, Some, None, inl, inr}
use Rattle.conn_model.specs.Classes.{class}
use Rattle.conn_model.specs.Process.{Process, Stop, Ask, Look, Tell, refusal_of, plain_heard, given_rows, row_refused}
use Rattle.conn_model.specs.States.{State, Idle, Open, Lost, Transaction, Writes, step, step_by, step_refused, refuses, open_refuses, is_serialization_failure, commits, told_of, accepts, accepts_prepare, idle_accepts, open_accepts, aborted_accepts}
use Rattle.conn_model.specs.declared.class.Class.{Class}
use Rattle.conn_model.specs.declared.class.Class.TheVariants as of
use Rattle.conn_model.specs.declared.item.Answer.{Answer}
use Rattle.conn_model.specs.declared.item.Answer.TheVariants.{Accepted, Refused}
use Rattle.conn_model.specs.declared.item.Call.{Call}
use Rattle.conn_model.specs.declared.item.Call.TheVariants.{Exec, Prepare, Run, Fetch}
use Rattle.conn_model.specs.declared.item.Dialect.{Dialect}
use Rattle.conn_model.specs.declared.item.Dialect.TheVariants.{Pg, Mysql, Sqlite}
use Rattle.conn_model.specs.declared.item.Effect.{Effect}
use Rattle.conn_model.specs.declared.item.Effect.TheVariants.{Stays, Aborts, Ends, Loses}
use Rattle.conn_model.specs.declared.item.Item.{Item}
use Rattle.conn_model.specs.declared.item.Refusal.{Refusal}
use Rattle.conn_model.specs.declared.item.Told.TheVariants as told
use Rattle.conn_manager.specs.Statuses.{Status, retold, set_flag, set_flag_in}
use Rattle.conn_manager.specs.declared.status.InTransactionStatus.{InTransactionStatus}
use Rattle.conn_manager.specs.declared.status.TransactionManagerStatus.TheVariants.{Valid, InError}
use Rattle.conn_reading.specs.Folds.{Level, Stack, alone, IsNested, Nested, HasDepth, HasDepthIn, emptied, doom, doomed_in, written, written_in, is_write_class, after_abort, after_end, after_item, after_items}
use Rattle.conn_reading.specs.Plainly.{Plainly}
use Rattle.conn_reading.specs.Reading.{heard_with, Reads}
use Rattle.conn_reading.specs.Verdicts.{is_plain, runs_class}
use Rattle.conn_reading.proofs.Standing.{nests_write, nests_abort}

depth_flagged_in : (b : Bool) (o : Option InTransactionStatus) (n : ℕ) → HasDepthIn o n → HasDepthIn (set_flag_in b o) n
depth_flagged_in b None n h = h
depth_flagged_in b (Some t) n h = h

depth_flagged : (b : Bool) (S : Status) (n : ℕ) → HasDepth S n → HasDepth (set_flag b S) n
depth_flagged b (Valid v) n h = depth_flagged_in b v.in_transaction n h
depth_flagged b InError n h = h

depth_maybe : (c : Bool) (S : Status) (n : ℕ) → HasDepth S n → HasDepth (if c then set_flag true S else S) n
depth_maybe true S n h = depth_flagged true S n h
depth_maybe false S n h = h

aborts_in : (o : Transaction) (w : Writes) (levels : List Level) → IsNested o w levels → IsNested (record o { aborted = true }) w (doomed_in levels)
aborts_in o w [] n = absurd n.marks
aborts_in o w (l ∷ ls) n = nests_abort o w l ls n

doomed_length : (levels : List Level) → length levels ≡ length (doomed_in levels)
doomed_length [] = refl
doomed_length (l ∷ ls) = refl

ended : (o : Transaction) (w : Writes) (levels : List Level) → IsNested o w levels → alone w ≡ alone o.base
ended o w levels n = ap alone (sym n.base)

-- a refused item of any class but a transaction's
open_refused_nests : (d : Dialect) (S : Status) (o : Transaction) (mid : State) (k : Stack) (c : Bool) (x : Refusal) (e : Effect) → Nested S (Open o) k → open_refuses d o c x.kind e ≡ Some mid
    → Nested (retold d (Some x) (told_of d mid) S) mid (after_end (Refused x e) (after_abort (Refused x e) k))
open_refused_nests Pg S o mid k c x Stays n is = absurd (cc)
open_refused_nests Pg S o mid k true x Aborts n is = absurd (cc)
open_refused_nests Pg S o mid k false x Aborts n is =
    let m : Open (record o { aborted = true }) ≡ mid = cc in
    subst (λ (y : State). Nested (retold Pg (Some x) (told_of Pg y) S) y (doom k)) m (subst (λ (j : ℕ). HasDepth (set_flag true S) j) (doomed_length k.levels) (depth_flagged true S (length k.levels) n.0), aborts_in o k.lowest k.levels n.1)
open_refused_nests Pg S o mid k c x Ends n is = let m : Idle o.base ≡ mid = cc in subst (λ (y : State). Nested (retold Pg (Some x) (told_of Pg y) S) y (emptied k)) m (ended o k.lowest k.levels n.1)
open_refused_nests Pg S o mid k c x Loses n is = let m : Lost o.base ≡ mid = cc in subst (λ (y : State). Nested (retold Pg (Some x) (told_of Pg y) S) y (emptied k)) m (ended o k.lowest k.levels n.1)
open_refused_nests Mysql S o mid k c x Stays n is = let m : Open o ≡ mid = cc in subst (λ (y : State). Nested (retold Mysql (Some x) (told_of Mysql y) S) y k) m (depth_maybe (is_serialization_failure x.kind) S (length k.levels) n.0, n.1)
open_refused_nests Mysql S o mid k c x Aborts n is = absurd (cc)
open_refused_nests Mysql S o mid k c x Ends n is =
    elim (is_serialization_failure x.kind) as (λ b. (if b then Some (Idle o.base) else None) ≡ Some mid → Nested (if b then set_flag true S else S) mid (emptied k)) [
      | true ↦ (λ i. let m : Idle o.base ≡ mid = cc in subst (λ (y : State). Nested (set_flag true S) y (emptied k)) m (ended o k.lowest k.levels n.1))
      | false ↦ (λ i. absurd (cc))
    ] is
open_refused_nests Mysql S o mid k c x Loses n is = let m : Lost o.base ≡ mid = cc in subst (λ (y : State). Nested (retold Mysql (Some x) (told_of Mysql y) S) y (emptied k)) m (ended o k.lowest k.levels n.1)
open_refused_nests Sqlite S o mid k c x Stays n is = let m : Open o ≡ mid = cc in subst (λ (y : State). Nested (retold Sqlite (Some x) (told_of Sqlite y) S) y k) m n
open_refused_nests Sqlite S o mid k c x Aborts n is = absurd (cc)
open_refused_nests Sqlite S o mid k c x Ends n is = let m : Idle o.base ≡ mid = cc in subst (λ (y : State). Nested (retold Sqlite (Some x) (told_of Sqlite y) S) y (emptied k)) m (ended o k.lowest k.levels n.1)
open_refused_nests Sqlite S o mid k c x Loses n is = let m : Lost o.base ≡ mid = cc in subst (λ (y : State). Nested (retold Sqlite (Some x) (told_of Sqlite y) S) y (emptied k)) m (ended o k.lowest k.levels n.1)

pub refused_nests : (d : Dialect) (S : Status) (s mid : State) (k : Stack) (c : Bool) (x : Refusal) (e : Effect) → Nested S s k → refuses d s c x.kind e ≡ Some mid
    → Nested (retold d (Some x) (told_of d mid) S) mid (after_end (Refused x e) (after_abort (Refused x e) k))
refused_nests d S (Idle w) mid k c x Stays n is = let m : Idle w ≡ mid = cc in subst (λ (y : State). Nested (retold d (Some x) (told_of d y) S) y k) m n
refused_nests d S (Idle w) mid k c x Loses n is = let m : Lost w ≡ mid = cc in subst (λ (y : State). Nested (retold d (Some x) (told_of d y) S) y (emptied k)) m (ap emptied n)
refused_nests d S (Idle w) mid k c x Aborts n is = absurd (cc)
refused_nests d S (Idle w) mid k c x Ends n is = absurd (cc)
refused_nests d S (Open o) mid k c x e n is = open_refused_nests d S o mid k c x e n is
refused_nests d S (Lost w) mid k c x Stays n is = let m : Lost w ≡ mid = cc in subst (λ (y : State). Nested (retold d (Some x) (told_of d y) S) y k) m n
refused_nests d S (Lost w) mid k c x Loses n is = absurd (cc)
refused_nests d S (Lost w) mid k c x Aborts n is = absurd (cc)
refused_nests d S (Lost w) mid k c x Ends n is = absurd (cc)

-- an accepted text that no transaction's is
pub depth_heard : (d : Dialect) (S : Status) (o : Transaction) (n : ℕ) → o.aborted ≡ false → HasDepth S n → HasDepth (retold d None (told_of d (Open o)) S) n
depth_heard Pg S o n a h = subst (λ (b : Bool). HasDepth (retold Pg None (if b then told.Failed else told.Open) S) n) (sym a) (depth_flagged false S n h)
depth_heard Mysql S o n a h = h
depth_heard Sqlite S o n a h = h

writes_in : (o : Transaction) (text : List ℕ) (w : Writes) (levels : List Level) → IsNested o w levels → (let q = written_in text w levels in (length levels ≡ length q.levels) × IsNested (record o { now = o.now ++ text ∷ [] }) q.lowest q.levels)
writes_in o text w [] n = absurd n.marks
writes_in o text w (l ∷ ls) n = (refl, nests_write o w l ls text n)

plain_idle_nests : (S : Status) (d : Dialect) (w : Writes) (mid : State) (k : Stack) (text : List ℕ) (c : Class) → is_plain c ≡ true → k ≡ alone w → idle_accepts d w text c ≡ Some mid
    → Nested S mid (if is_write_class c then written text k else k)
plain_idle_nests S d w mid k text of.Begin c n is = absurd (cc)
plain_idle_nests S d w mid k text of.Commit c n is = absurd (cc)
plain_idle_nests S d w mid k text (of.Savepoint j) c n is = absurd (cc)
plain_idle_nests S d w mid k text (of.RollbackTo j) c n is = absurd (cc)
plain_idle_nests S d w mid k text (of.Release j) c n is = absurd (cc)
plain_idle_nests S d w mid k text of.Rollback c n is = absurd (cc)
plain_idle_nests S d w mid k text of.Write c n is = let m : Idle (w ++ text ∷ []) ≡ mid = cc in subst (λ (y : State). Nested S y (written text k)) m (ap (written text) n)
plain_idle_nests S d w mid k text of.Other c n is = let m : Idle w ≡ mid = cc in subst (λ (y : State). Nested S y k) m n

plain_open_nests : (d : Dialect) (S : Status) (o : Transaction) (mid : State) (k : Stack) (text : List ℕ) (b : Bool) (c : Class) → o.aborted ≡ b → is_plain c ≡ true → Nested S (Open o) k
    → (if b then aborted_accepts o c else open_accepts d o text c) ≡ Some mid → Nested (retold d None (told_of d mid) S) mid (if is_write_class c then written text k else k)
plain_open_nests d S o mid k text b of.Begin a c n is = absurd (cc)
plain_open_nests d S o mid k text b of.Commit a c n is = absurd (cc)
plain_open_nests d S o mid k text b (of.Savepoint j) a c n is = absurd (cc)
plain_open_nests d S o mid k text b (of.RollbackTo j) a c n is = absurd (cc)
plain_open_nests d S o mid k text b (of.Release j) a c n is = absurd (cc)
plain_open_nests d S o mid k text b of.Rollback a c n is = absurd (cc)
plain_open_nests d S o mid k text true of.Write a c n is = absurd (cc)
plain_open_nests d S o mid k text true of.Other a c n is = absurd (cc)
plain_open_nests d S o mid k text false of.Write a c n is =
    let u : Transaction = record o { now = o.now ++ text ∷ [] } in
    let m : Open (record o { now = o.now ++ text ∷ [] }) ≡ mid = cc in
    let e = writes_in o text k.lowest k.levels n.1 in
    subst (λ (y : State). Nested (retold d None (told_of d y) S) y (written text k)) m
    (subst (λ (j : ℕ). HasDepth (retold d None (told_of d (Open (record o { now = o.now ++ text ∷ [] }))) S) j) e.0 (depth_heard d S (record o { now = o.now ++ text ∷ [] }) (length k.levels) a n.0), e.1)
plain_open_nests d S o mid k text false of.Other a c n is = let m : Open o ≡ mid = cc in subst (λ (y : State). Nested (retold d None (told_of d y) S) y k) m (depth_heard d S o (length k.levels) a n.0, n.1)

pub plain_nests : (d : Dialect) (S : Status) (s mid : State) (k : Stack) (text : List ℕ) → is_plain (class text) ≡ true → Nested S s k → accepts d s text ≡ Some mid → Nested (retold d None (told_of d mid) S) mid (if is_write_class (class text) then written text k else k)
plain_nests d S (Idle w) mid k text c n is = plain_idle_nests _ d w mid k text (class text) c n is
plain_nests d S (Open o) mid k text c n is = plain_open_nests d S o mid k text o.aborted (class text) refl c n is
plain_nests d S (Lost w) mid k text c n is = absurd (cc)

-- ---- any call with a plain text

prepare_nests_open : (d : Dialect) (S : Status) (o : Transaction) (mid : State) (k : Stack) (b : Bool) → o.aborted ≡ b → Nested S (Open o) k → (if b then None else Some (Open o)) ≡ Some mid → Nested (retold d None (told_of d mid) S) mid k
prepare_nests_open d S o mid k true a n is = absurd (cc)
prepare_nests_open d S o mid k false a n is = let m : Open o ≡ mid = cc in subst (λ (x : State). Nested (retold d None (told_of d x) S) x k) m (depth_heard d S o (length k.levels) a n.0, n.1)

prepare_nests : (d : Dialect) (S : Status) (s mid : State) (k : Stack) → Nested S s k → accepts_prepare s ≡ Some mid → Nested (retold d None (told_of d mid) S) mid k
prepare_nests d S (Idle w) mid k n is = let m : Idle w ≡ mid = cc in subst (λ (x : State). Nested (retold d None (told_of d x) S) x k) m n
prepare_nests d S (Open o) mid k n is = prepare_nests_open d S o mid k o.aborted refl n is
prepare_nests d S (Lost w) mid k n is = absurd (cc)

accepted_nests : (d : Dialect) (S : Status) (s mid : State) (k : Stack) (call : Call) (text : List ℕ) → is_plain (class text) ≡ true → Nested S s k → step_by d s call text Accepted ≡ Some mid
    → Nested (retold d None (told_of d mid) S) mid (if runs_class is_write_class call text then written text k else k)
accepted_nests d S s mid k Exec text c n is = plain_nests d S s mid k text c n is
accepted_nests d S s mid k (Run binds) text c n is = plain_nests d S s mid k text c n is
accepted_nests d S s mid k (Prepare name) text c n is = prepare_nests d S s mid k n is
accepted_nests d S s mid k Fetch text c n is = absurd (cc)

item_nests : (d : Dialect) (S : Status) (s mid : State) (k : Stack) (i : Item) (answer : Answer) → i.answer ≡ answer → is_plain (class i.text) ≡ true → Nested S s k → step_by d s i.call i.text answer ≡ Some mid
    → Nested (retold d (refusal_of answer) (told_of d mid) S) mid (after_item i k)
item_nests d S s mid k i Accepted a c n is = rw a (accepted_nests d S s mid k i.call i.text c n is)
item_nests d S s mid k i (Refused x e) a c n is = rw a (refused_nests d S s mid k (commits i.call i.text) x e n (step_refused d s i.text i.call i.text x e mid is).1)

-- plain texts keep the stack, whatever is refused
pub plainly_nests : {A : Type 0} (d : Dialect) (status : A → Status) (S : Status) (s : State) (process : Process A) (items : List Item) (a : A) (end : State) (k : Stack) → Plainly d status S process → Nested S s k → Reads d s process items a end
    → Nested (status a) end (after_items items k)
plainly_nests d status S s (Stop x) [] a end k plainly n reads = rw (reads.0, reads.1, plainly) n
plainly_nests d status S s (Stop x) (i ∷ is) a end k plainly n reads = absurd reads
plainly_nests d status S s (Tell event p) items a end k plainly n reads = plainly_nests d status S s p items a end k plainly n reads
plainly_nests d status S s (Ask call text next) [] a end k plainly n reads = absurd reads
plainly_nests d status S s (Ask call text next) (i ∷ is) a end k plainly n reads =
    let after : State = reads.2.0 in
    let c : is_plain (class i.text) ≡ true = ap (λ (t : List ℕ). is_plain (class t)) reads.1 ∙ plainly.0 in
    plainly_nests d status (retold d (refusal_of i.answer) (told_of d after) S) after (next (heard_with d after i.answer reads.2.2.0)) is a end (after_item i k) (plainly.1 (heard_with d after i.answer reads.2.2.0))
    (item_nests d S s after k i i.answer refl c n reads.2.1) reads.2.2.1
plainly_nests d status S s (Look text next) [] a end k plainly n reads = plainly_nests d status S s (next (given_rows reads.0)) [] a end k (plainly (given_rows reads.0)) n reads.1
plainly_nests d status S s (Look text next) (i ∷ is) a end k plainly n (inl reads) = plainly_nests d status S s (next (given_rows reads.0)) (i ∷ is) a end k (plainly (given_rows reads.0)) n reads.1
plainly_nests d status S s (Look text next) (i ∷ is) a end k plainly n (inr reads) =
    let after : State = reads.3.0 in
    let stepped : step d s (row_refused reads.0 reads.1) ≡ Some after = subst (λ (x : Item). step d s x ≡ Some after) reads.2 reads.3.1 in
    let here : Nested (retold d (Some reads.0) (told_of d after) S) after (after_item i k) =
    subst (λ (x : Item). Nested (retold d (Some reads.0) (told_of d after) S) after (after_item x k)) (sym reads.2)
    (refused_nests d S s after k (commits Fetch []) reads.0 reads.1 n (step_refused d s [] Fetch [] reads.0 reads.1 after stepped).1) in
    plainly_nests d status (retold d (Some reads.0) (told_of d after) S) after (next (plain_heard (Some reads.0) (told_of d after))) is a end (after_item i k) (plainly (plain_heard (Some reads.0) (told_of d after))) here reads.3.2
