-- Calls that send texts which ask nothing of a transaction, and follow what the server tells, keep the invariant.
use Rattle.std.proofs.Common.{◌≡◌, ℕ, Bool, true, false, if◌then◌else◌, List, [], ◌∷◌, ◌++◌, refl, sym, ◌∙◌, subst, Some, None}
use Rattle.conn_model.specs.Classes.{class}
use Rattle.conn_model.specs.Process.{Process, Stop, Ask, Look, Tell, Heard, refusal_of, plain_heard, given_rows}
use Rattle.conn_model.specs.States.{step_refused, State, Idle, Open, Lost, Transaction, step_by, accepts, idle_accepts, open_accepts, aborted_accepts, accepts_prepare, commits, told_of}
use Rattle.conn_model.specs.declared.class.Class.{Class}
use Rattle.conn_model.specs.declared.class.Class.TheVariants as of
use Rattle.conn_model.specs.declared.item.Answer.{Answer}
use Rattle.conn_model.specs.declared.item.Answer.TheVariants.{Accepted, Refused}
use Rattle.conn_model.specs.declared.item.Call.{Call}
use Rattle.conn_model.specs.declared.item.Call.TheVariants.{Exec, Prepare, Run, Fetch}
use Rattle.conn_model.specs.declared.item.Dialect.{Dialect}
use Rattle.conn_manager.specs.Statuses.{Status, retold}
use Rattle.conn_reading.specs.Plainly.{Plainly}
use Rattle.conn_reading.specs.Reading.{heard_with}
use Rattle.conn_reading.specs.Verdicts.{Part, part_after, fresh, Holds, is_plain, is_begin_class, runs_class}
use Rattle.conn_reading.proofs.Items.{refused_keeps, heard_idle, heard_open, same_marks}
use Rattle.conn_reading.proofs.Safe.{Safe, refuses_as}

pub false_true : false ≡ true → ⊥
false_true e = cc

to_idle : (d : Dialect) (S : Status) (w v : List (List ℕ)) (mid : State) (p : Part) → Holds d S (Idle w) p → Idle v ≡ mid → Holds d (retold d None (told_of d mid) S) mid p
to_idle d S w v mid p h m = subst (λ (x : State). Holds d (retold d None (told_of d x) S) x p) m (heard_idle d S w v p h.status)

to_open : (d : Dialect) (S : Status) (o u : Transaction) (mid : State) (p : Part) → u.aborted ≡ false → o.marks ≡ u.marks → Holds d S (Open o) p → Open u ≡ mid → Holds d (retold d None (told_of d mid) S) mid p
to_open d S o u mid p a e h m = subst (λ (x : State). Holds d (retold d None (told_of d x) S) x p) m (heard_open d S u p a (same_marks d S o u p a e h.status))

plain_idle : (d : Dialect) (S : Status) (w : List (List ℕ)) (mid : State) (p : Part) (text : List ℕ) (c : Class) → is_plain c ≡ true → Holds d S (Idle w) p → idle_accepts d w text c ≡ Some mid → Holds d (retold d None (told_of d mid) S) mid p
plain_idle d S w mid p text of.Begin c h is = absurd (cc)
plain_idle d S w mid p text of.Commit c h is = absurd (cc)
plain_idle d S w mid p text (of.Savepoint k) c h is = absurd (cc)
plain_idle d S w mid p text (of.RollbackTo k) c h is = absurd (cc)
plain_idle d S w mid p text (of.Release k) c h is = absurd (cc)
plain_idle d S w mid p text of.Rollback c h is = absurd (cc)
plain_idle d S w mid p text of.Write c h is = let m : Idle (w ++ text ∷ []) ≡ mid = cc in to_idle d S w _ mid p h m
plain_idle d S w mid p text of.Other c h is = let m : Idle w ≡ mid = cc in to_idle d S w w mid p h m

plain_open : (d : Dialect) (S : Status) (o : Transaction) (mid : State) (p : Part) (text : List ℕ) (b : Bool) (c : Class) → o.aborted ≡ b → is_plain c ≡ true → Holds d S (Open o) p
    → (if b then aborted_accepts o c else open_accepts d o text c) ≡ Some mid → Holds d (retold d None (told_of d mid) S) mid p
plain_open d S o mid p text b of.Begin a c h is = absurd (cc)
plain_open d S o mid p text b of.Commit a c h is = absurd (cc)
plain_open d S o mid p text b (of.Savepoint k) a c h is = absurd (cc)
plain_open d S o mid p text b (of.RollbackTo k) a c h is = absurd (cc)
plain_open d S o mid p text b (of.Release k) a c h is = absurd (cc)
plain_open d S o mid p text b of.Rollback a c h is = absurd (cc)
plain_open d S o mid p text true of.Write a c h is = absurd (cc)
plain_open d S o mid p text true of.Other a c h is = absurd (cc)
plain_open d S o mid p text false of.Write a c h is = let m : Open (record o { now = o.now ++ text ∷ [] }) ≡ mid = cc in to_open d S o _ mid p a refl h m
plain_open d S o mid p text false of.Other a c h is = let m : Open o ≡ mid = cc in to_open d S o o mid p a refl h m

pub plain_accepted : (d : Dialect) (S : Status) (s mid : State) (p : Part) (text : List ℕ) → is_plain (class text) ≡ true → Holds d S s p → accepts d s text ≡ Some mid → Holds d (retold d None (told_of d mid) S) mid p
plain_accepted d S (Idle w) mid p text c h is = plain_idle d S w mid p text (class text) c h is
plain_accepted d S (Open o) mid p text c h is = plain_open d S o mid p text o.aborted (class text) refl c h is
plain_accepted d S (Lost w) mid p text c h is = absurd (cc)

pub plain_opens_not : (c : Class) → is_plain c ≡ true → is_begin_class c ≡ false
plain_opens_not of.Begin h = absurd (cc)
plain_opens_not of.Commit h = refl
plain_opens_not (of.Savepoint k) h = refl
plain_opens_not (of.RollbackTo k) h = refl
plain_opens_not (of.Release k) h = refl
plain_opens_not of.Rollback h = refl
plain_opens_not of.Write h = refl
plain_opens_not of.Other h = refl

plain_call : (call : Call) (text : List ℕ) → is_plain (class text) ≡ true → runs_class is_begin_class call text ≡ false
plain_call Exec text c = plain_opens_not (class text) c
plain_call (Run binds) text c = plain_opens_not (class text) c
plain_call (Prepare name) text c = refl
plain_call Fetch text c = refl

prepare_open : (d : Dialect) (S : Status) (o : Transaction) (mid : State) (p : Part) (b : Bool) → o.aborted ≡ b → Holds d S (Open o) p → (if b then None else Some (Open o)) ≡ Some mid → Holds d (retold d None (told_of d mid) S) mid p
prepare_open d S o mid p true a h is = absurd (cc)
prepare_open d S o mid p false a h is = let m : Open o ≡ mid = cc in to_open d S o o mid p a refl h m

prepare_keeps : (d : Dialect) (S : Status) (s mid : State) (p : Part) → Holds d S s p → accepts_prepare s ≡ Some mid → Holds d (retold d None (told_of d mid) S) mid p
prepare_keeps d S (Idle w) mid p h is = let m : Idle w ≡ mid = cc in to_idle d S w w mid p h m
prepare_keeps d S (Open o) mid p h is = prepare_open d S o mid p o.aborted refl h is
prepare_keeps d S (Lost w) mid p h is = absurd (cc)

accepted_keeps : (d : Dialect) (S : Status) (s mid : State) (p : Part) (call : Call) (text : List ℕ) → is_plain (class text) ≡ true → Holds d S s p → step_by d s call text Accepted ≡ Some mid → Holds d (retold d None (told_of d mid) S) mid p
accepted_keeps d S s mid p Exec text c h is = plain_accepted d S s mid p text c h is
accepted_keeps d S s mid p (Run binds) text c h is = plain_accepted d S s mid p text c h is
accepted_keeps d S s mid p (Prepare name) text c h is = prepare_keeps d S s mid p h is
accepted_keeps d S s mid p Fetch text c h is = absurd (cc)

-- any call with a plain text
pub call_keeps : (d : Dialect) (S : Status) (s mid : State) (p : Part) (call : Call) (text : List ℕ) (answer : Answer) → is_plain (class text) ≡ true → Holds d S s p → step_by d s call text answer ≡ Some mid
    → Holds d (retold d (refusal_of answer) (told_of d mid) S) mid (part_after p call text answer)
call_keeps d S s mid p call text Accepted c h is = subst (λ (b : Bool). Holds d (retold d None (told_of d mid) S) mid (if b then fresh else p)) (sym (plain_call call text c)) (accepted_keeps d S s mid p call text c h is)
call_keeps d S s mid p call text (Refused x e) c h is = refused_keeps d S s mid p (part_after p call text (Refused x e)) (commits call text) x e (refuses_as p call text x e) h (step_refused d s text call text x e mid is).1

module _ {A : Type 0} (d : Dialect) (status : A → Status) where
  pub plainly_safe : (S : Status) (s : State) (p : Part) (process : Process A) → Plainly d status S process → Holds d S s p → Safe d status s p process
  plainly_safe S s p (Stop a) plainly h = subst (λ (x : Status). Holds d x s p) (sym plainly) h
  plainly_safe S s p (Tell event q) plainly h = plainly_safe S s p q plainly h
  plainly_safe S s p (Ask call text next) plainly h = (
    λ e. absurd (false_true (sym (plain_call call text plainly.0) ∙ e)),
    λ answer mid is b.
        let heard : Heard = heard_with d mid answer b in
        plainly_safe (retold d (refusal_of answer) (told_of d mid) S) mid (part_after p call text answer) (next heard) (plainly.1 heard) (call_keeps d S s mid p call text answer plainly.0 h is),
  )
  plainly_safe S s p (Look text next) plainly h = (
    λ rows. plainly_safe S s p (next (given_rows rows)) (plainly (given_rows rows)) h,
    λ r e mid is.
        let heard : Heard = plain_heard (Some r) (told_of d mid) in
        plainly_safe (retold d (Some r) (told_of d mid) S) mid (part_after p Fetch [] (Refused r e)) (next heard) (plainly heard)
        (refused_keeps d S s mid p (part_after p Fetch [] (Refused r e)) (commits Fetch []) r e (refuses_as p Fetch [] r e) h (step_refused d s [] Fetch [] r e mid is).1),
  )
