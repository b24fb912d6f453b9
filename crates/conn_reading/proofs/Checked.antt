-- A ping that is answered without an error leaves a connection clean that was so.
use Rattle.std.proofs.Common.{◌≡◌, ℕ, Bool, true, false, ◌+◌, if◌then◌else◌, List, [], ◌∷◌, Option, Some, None, Result, Err, refl, sym, ap, subst, ◌∙◌, inl, inr}
use Rattle.std.specs.Prelude.{◌⊎◌}
use Rattle.conn_result.specs.declared.error.Error.{Error}
use Rattle.conn_result.specs.declared.error.Error.TheVariants.{DatabaseError, QueryIdClash, CounterExhausted}
use Rattle.conn_model.specs.Caches.{Known}
use Rattle.conn_model.specs.Classes.{class}
use Rattle.conn_model.specs.Process.{Process, Stop, Ask, Look, Tell}
use Rattle.conn_model.specs.States.{State, Idle, Open, Lost, Transaction, step_by, told_of, accepts, accepts_prepare, aborted_accepts, idle_accepts, open_accepts}
use Rattle.conn_model.specs.declared.class.Class.{Class}
use Rattle.conn_model.specs.declared.class.Class.TheVariants as of
use Rattle.conn_model.specs.declared.item.Answer.{Answer}
use Rattle.conn_model.specs.declared.item.Answer.TheVariants.{Accepted, Refused}
use Rattle.conn_model.specs.declared.item.Call.{Call}
use Rattle.conn_model.specs.declared.item.Call.TheVariants.{Exec, Prepare, Run, Fetch}
use Rattle.conn_model.specs.declared.item.Dialect.{Dialect}
use Rattle.conn_model.specs.declared.item.Dialect.TheVariants.{Pg, Mysql, Sqlite}
use Rattle.conn_model.specs.declared.item.Item.{Item}
use Rattle.conn_model.specs.declared.item.Refusal.{Refusal}
use Rattle.conn_model.specs.declared.item.Told.TheVariants as told
use Rattle.conn_manager.specs.Manages.{ask}
use Rattle.conn_manager.specs.Statuses.{Status, retold, set_flag, set_flag_in, is_broken, is_broken_in}
use Rattle.conn_manager.specs.declared.status.TransactionManagerStatus.TheVariants.{Valid, InError}
use Rattle.conn_manager.specs.declared.status.InTransactionStatus.{InTransactionStatus}
use Rattle.conn_cache.specs.Faults.{query_fault}
use Rattle.conn_cache.specs.QueryProcesses.{Asked, asked_without_value, counted, execute_process, ping_view, ping_process, prepared, runs, runs_due, runs_plain, types_for, unless_fault, with_new}
use Rattle.conn_cache.specs.QueryViews.{QueryView}
use Rattle.conn_cache.specs.Registers.{due}
use Rattle.conn_cache.specs.declared.entry.Due.{Due}
use Rattle.conn_cache.specs.declared.entry.Due.TheVariants as dues
use Rattle.conn_report.specs.declared.entry.Reply.TheVariants as replies
use Rattle.conn_script.specs.declared.query.Declared.{Declared}
use Rattle.conn_reading.specs.Asking.{Outcome, asked_as, process_of}
use Rattle.conn_reading.specs.Reading.{Beside, Reads, heard_with}
use Rattle.conn_reading.specs.Verdicts.{is_plain}
use Rattle.conn_reading.specs.declared.deed.Deed.TheVariants as deeds
use Rattle.conn_reading.proofs.Deeds.{ping_plain}
use Rattle.conn_reading.proofs.ItemsRead.{reads_unmap}

-- ---- an accepted item

-- a server that is lost accepted no plain text
lost_idle : (w : List (List ℕ)) (lost : List (List ℕ)) (text : List ℕ) (c : Class) → is_plain c ≡ true → idle_accepts Pg w text c ≡ Some (Lost lost) → ⊥
lost_idle w lost text of.Begin plain is = absurd (cc)
lost_idle w lost text of.Commit plain is = absurd (cc)
lost_idle w lost text of.Rollback plain is = absurd (cc)
lost_idle w lost text (of.Savepoint k) plain is = absurd (cc)
lost_idle w lost text (of.RollbackTo k) plain is = absurd (cc)
lost_idle w lost text (of.Release k) plain is = absurd (cc)
lost_idle w lost text of.Write plain is = absurd (cc)
lost_idle w lost text of.Other plain is = absurd (cc)

lost_open : (o : Transaction) (lost : List (List ℕ)) (text : List ℕ) (b : Bool) (c : Class) → is_plain c ≡ true → (if b then aborted_accepts o c else open_accepts Pg o text c) ≡ Some (Lost lost) → ⊥
lost_open o lost text b of.Begin plain is = absurd (cc)
lost_open o lost text b of.Commit plain is = absurd (cc)
lost_open o lost text b of.Rollback plain is = absurd (cc)
lost_open o lost text b (of.Savepoint k) plain is = absurd (cc)
lost_open o lost text b (of.RollbackTo k) plain is = absurd (cc)
lost_open o lost text b (of.Release k) plain is = absurd (cc)
lost_open o lost text true of.Write plain is = absurd (cc)
lost_open o lost text true of.Other plain is = absurd (cc)
lost_open o lost text false of.Write plain is = absurd (cc)
lost_open o lost text false of.Other plain is = absurd (cc)

lost_class : (s : State) (lost : List (List ℕ)) (text : List ℕ) → is_plain (class text) ≡ true → accepts Pg s text ≡ Some (Lost lost) → ⊥
lost_class (Idle w) lost text plain is = lost_idle w lost text (class text) plain is
lost_class (Open o) lost text plain is = lost_open o lost text o.aborted (class text) plain is
lost_class (Lost w) lost text plain is = absurd (cc)

lost_prepare : (s : State) (lost : List (List ℕ)) → accepts_prepare s ≡ Some (Lost lost) → ⊥
lost_prepare (Idle w) lost is = absurd (cc)
lost_prepare (Open o) lost is = by_case o.aborted is
  where
    by_case : (b : Bool) → (let r : Option State = if b then None else Some (Open o) in r ≡ Some (Lost lost) → ⊥)
    by_case true e = absurd (cc)
    by_case false e = absurd (cc)
lost_prepare (Lost w) lost is = absurd (cc)

lost_none : (s : State) (lost : List (List ℕ)) (call : Call) (text : List ℕ) → is_plain (class text) ≡ true → step_by Pg s call text Accepted ≡ Some (Lost lost) → ⊥
lost_none s lost Exec text plain is = lost_class s lost text plain is
lost_none s lost (Run binds) text plain is = lost_class s lost text plain is
lost_none s lost (Prepare name) text plain is = lost_prepare s lost is
lost_none s lost Fetch text plain is = absurd (cc)

-- a flag changes nothing of it
flag_clean : (flag : Bool) (S : Status) → is_broken S ≡ false → is_broken (set_flag flag S) ≡ false
flag_clean flag (Valid v) clean = by_depth v.in_transaction clean
  where
    by_depth : (t : Option InTransactionStatus) → is_broken_in t ≡ false → is_broken_in (set_flag_in flag t) ≡ false
    by_depth None e = refl
    by_depth (Some t) e = e
flag_clean flag InError clean = absurd (cc)

told_clean : (S : Status) (s after : State) (call : Call) (text : List ℕ) → is_plain (class text) ≡ true → is_broken S ≡ false → step_by Pg s call text Accepted ≡ Some after → is_broken (retold Pg None (told_of Pg after) S) ≡ false
told_clean S s (Idle w) call text plain clean is = refl
told_clean S s (Open o) call text plain clean is = by_case o.aborted
  where
    by_case : (b : Bool) → is_broken (retold Pg None (if b then told.Failed else told.Open) S) ≡ false
    by_case true = flag_clean true S clean
    by_case false = flag_clean false S clean
told_clean S s (Lost w) call text plain clean is = absurd (lost_none s w call text plain is)

accepted_clean : (d : Dialect) (S : Status) (s after : State) (call : Call) (text : List ℕ) → is_plain (class text) ≡ true → is_broken S ≡ false → step_by d s call text Accepted ≡ Some after → is_broken (retold d None (told_of d after) S) ≡ false
accepted_clean Pg S s after call text plain clean is = told_clean S s after call text plain clean is
accepted_clean Mysql S s after call text plain clean is = clean
accepted_clean Sqlite S s after call text plain clean is = clean

-- ---- a query that loads nothing

-- it answers an error, or leaves a clean status
abbrev IsWell : Asked ℕ → Type 0
IsWell a = ((e : Error) × (a.reply ≡ Err e)) ⊎ (is_broken a.status ≡ false)

-- so a process does, whatever its server answers
abbrev EndsWell : Dialect → State → Process (Asked ℕ) → Type 0
EndsWell d s (Stop a) = IsWell a
EndsWell d s (Tell event p) = EndsWell d s p
EndsWell d s (Ask call text next) = (answer : Answer) (after : State) → step_by d s call text answer ≡ Some after → (b : Beside) → EndsWell d after (next (heard_with d after answer b))
EndsWell d s (Look text next) = ⊥

well_read : (d : Dialect) (s : State) (p : Process (Asked ℕ)) (items : List Item) (a : Asked ℕ) (end : State) → EndsWell d s p → Reads d s p items a end → IsWell a
well_read d s (Stop x) [] a end well reads = subst IsWell (sym reads.0) well
well_read d s (Stop x) (i ∷ is) a end well reads = absurd reads
well_read d s (Tell event p) items a end well reads = well_read d s p items a end well reads
well_read d s (Ask call text next) [] a end well reads = absurd reads
well_read d s (Ask call text next) (i ∷ is) a end well reads =
    let after : State = reads.2.0 in
    let is_step : step_by d s call text i.answer ≡ Some after = asked i.call i.text reads.0 reads.1 reads.2.1 in
    well_read d after (next (heard_with d after i.answer reads.2.2.0)) is a end (well i.answer after is_step reads.2.2.0) reads.2.2.1
  where
    asked : (c : Call) (t : List ℕ) → c ≡ call → t ≡ text → step_by d s c t i.answer ≡ Some reads.2.0 → step_by d s call text i.answer ≡ Some reads.2.0
    asked c t e f g = rw (e, f) at g
well_read d s (Look text next) items a end well reads = absurd well

module _ (d : Dialect) (q : QueryView) (plain : is_plain (class q.sql) ≡ true) where
  run_well : (s : State) (S : Status) (c : Known) → is_broken S ≡ false → EndsWell d s (runs false d q (counted q) S c)
  run_well s S c clean Accepted after is b = inr (accepted_clean d S s after (Run q.binds) q.sql plain clean is)
  run_well s S c clean (Refused r e) after is b = inl (DatabaseError r.kind r.code, refl)

  prepare_well : (s : State) (S : Status) (name : Option ℕ) (left : Option Refusal → ℕ → Known) → is_broken S ≡ false → EndsWell d s (ask d (Prepare name) q.sql S (λ h s1. prepared false d q (counted q) h.refusal h.columns s1 (left h.refusal h.columns)))
  prepare_well s S name left clean Accepted after is b = run_well after (retold d None (told_of d after) S) (left None b.columns) (accepted_clean d S s after (Prepare name) q.sql plain clean is)
  prepare_well s S name left clean (Refused r e) after is b = inl (DatabaseError r.kind r.code, refl)

  plain_well : (of : Dialect) (s : State) (S : Status) (c : Known) → is_broken S ≡ false → EndsWell d s (runs_plain false d q (counted q) of S c)
  plain_well Pg s S c clean = run_well s S c clean
  plain_well Mysql s S c clean = prepare_well s S None (λ r columns. c) clean
  plain_well Sqlite s S c clean = prepare_well s S None (λ r columns. c) clean

  due_well : (due : Due) (s : State) (S : Status) (c : Known) → is_broken S ≡ false → EndsWell d s (runs_due false d q (counted q) due S c)
  due_well dues.Plain s S c clean = plain_well d s S c clean
  due_well (dues.Found place) s S c clean = run_well s S c clean
  due_well dues.Clash s S c clean = inl (QueryIdClash, refl)
  due_well dues.Exhausted s S c clean = inl (CounterExhausted, refl)
  due_well dues.New s S c clean = prepare_well s S (Some (c.register.counter + 1)) (λ r columns. with_new q (types_for d q) r columns c) clean

  fault_well : (fault : Option Error) (s : State) (S : Status) (c : Known) → is_broken S ≡ false → EndsWell d s (unless_fault false d q (counted q) fault S c)
  fault_well None s S c clean = due_well (due q (types_for d q) c.register) s S c clean
  fault_well (Some e) s S c clean = inl (e, refl)

-- ---- a ping

-- it answers an error, or leaves a clean status
abbrev pub IsChecked : Outcome → Type 0
IsChecked o = ((e : Error) × (o.reply ≡ replies.Error e)) ⊎ (is_broken o.status ≡ false)

pub ping_checks : (d : Dialect) (queries : List Declared) (s : State) (S : Status) (c : Known) (items : List Item) (o : Outcome) (end : State) → is_broken S ≡ false → Reads d s (process_of d queries S c deeds.Ping) items o end → IsChecked o
ping_checks d queries s S c items o end clean reads =
    let asked = reads_unmap (asked_as (λ (u : Unit {0}). replies.Ok)) d s (ping_process d S c) items o end reads in
    let ran = reads_unmap asked_without_value d s (execute_process d ping_view S c) items asked.value end asked.reads in
    let well : IsWell ran.value = well_read d s (execute_process d ping_view S c) items ran.value end (fault_well d ping_view ping_plain (query_fault d ping_view) s S c clean) ran.reads in
    let made : o ≡ asked_as (λ (u : Unit {0}). replies.Ok) (asked_without_value ran.value) = asked.made ∙ ap (asked_as (λ (u : Unit {0}). replies.Ok)) ran.made in
    subst IsChecked (sym made) (by_well ran.value well)
  where
    by_well : (a : Asked ℕ) → IsWell a → IsChecked (asked_as (λ (u : Unit {0}). replies.Ok) (asked_without_value a))
    by_well a (inl h) = inl (h.0, ap (λ (r : Result ℕ Error). (asked_as (λ (u : Unit {0}). replies.Ok) (asked_without_value (record a { reply = r }))).reply) h.1)
    by_well a (inr h) = inr h
