-- The connection that `get` has in hand, as if in the front slot: it is asked, handed out or closed.
use Rattle.std.proofs.Common.{◌≡◌, ◌≢◌, ℕ, ◌+◌, ◌<◌, ◌≤◌, Bool, true, false, List, [], ◌++◌, length, Option, Some, None, refl, sym, ap, subst, ◌∙◌, arith, Ok, Err, inl, inr, length-append, append-nil}
use Rattle.conn_result.specs.declared.error.Error.{Error}
use Rattle.conn_result.specs.declared.error.Error.TheVariants.{OutOfMemory}
use Rattle.conn_result.specs.declared.pool.Error.{Error as PoolError}
use Rattle.conn_model.specs.Acts.{Acts}
use Rattle.conn_model.specs.Armed.{Armed, armed_of}
use Rattle.conn_model.specs.Seen.{IsHonest}
use Rattle.conn_model.specs.States.{State, state_of}
use Rattle.conn_model.specs.declared.item.Dialect.{Dialect}
use Rattle.conn_model.specs.declared.item.Item.{Item}
use Rattle.conn_model.specs.declared.plan.Order.{Order}
use Rattle.conn_manager.specs.Manages.{IsRefusal, Reply as Answer}
use Rattle.conn_manager.specs.Views.{View}
use Rattle.conn_reading.specs.Answered.{ServerLogs, get_refusal}
use Rattle.conn_reading.specs.Asking.{outcome, process_of, reply_as}
use Rattle.conn_reading.specs.Reading.{BeginsAnew, ReadsItems}
use Rattle.conn_reading.specs.declared.deed.Deed.{Deed}
use Rattle.conn_reading.specs.declared.deed.Deed.TheVariants.{Close}
use Rattle.conn_script.specs.declared.command.BlockKind.{BlockKind}
use Rattle.conn_reading.proofs.Appends.{HasRead, reads_acts}
use Rattle.conn_reading.proofs.InPlace.{ReadsReady, only, only_none, only_same, ready_in_place, still_in_place}
use Rattle.conn_reading.proofs.Owned.{command_looks}
use Rattle.conn_report.specs.declared.entry.Reply.{Reply}
use Rattle.conn_report.specs.declared.entry.Reply.TheVariants as replies
use Rattle.conn_server.specs.Connected.{takes_back}
use Rattle.conn_server.specs.Ordered.{planned}
use Rattle.conn_session.specs.Customizing.{AnswersDeed, AnswersIf}
use Rattle.conn_session.specs.Known.{Has, IsKnown, progress, with_more}
use Rattle.conn_session.specs.Plays.{AnswersReady}
use Rattle.conn_session.specs.Responses.{IsAnswer, IsBlocks, IsDone, answer_reply, done_answer, seat_of, state_told}
use Rattle.conn_session.specs.Steps.{KeepsAll}
use Rattle.conn_session.specs.Transfers.{gives_slot, in_front, puts_out}
use Rattle.conn_session.specs.Worlds.{World, Invariant, refusals}
use Rattle.conn_session.proofs.Growing.{known_front, known_same}
use Rattle.conn_session.proofs.Honest.{state_of_log, sent_of_log}
use Rattle.conn_session.proofs.Moving.{asked_front, closed_front, front_vacant, front_within, handed_out}
use Rattle.conn_session.proofs.Totals

-- ---- what each move keeps

pub asked_keeps : (w : World) (v u : View) → u.seen.number ≡ v.seen.number → v.seen.failures ≤ u.seen.failures → Invariant (in_front (Some v) w) → KeepsAll (in_front (Some v) w) (in_front (Some u) w)
asked_keeps w v u same later h = record {
  holds = asked_front w v u same h;
  counts = record {
    later = omega arith;
    refusals_later = λ m. omega (arith, Totals.sum-first (refusals m) w.pool.slots (Some v), Totals.sum-first (refusals m) w.pool.slots (Some u), Totals.refusals_later m v.seen u.seen same later);
  };
  opening = record { dialect = refl; url = refl; size = refl; queries = refl; policy = refl; plan = refl; aims = λ h. h };
}

pub handed_keeps : (w : World) (u : View) → Invariant (in_front (Some u) w) → KeepsAll (in_front (Some u) w) (record w { pool = puts_out u.seen.number (Some u) w.pool })
handed_keeps w u h = record {
  holds = handed_out w u h;
  counts = record {
    later = omega arith;
    refusals_later = λ m. omega (arith, Totals.sum-first (refusals m) w.pool.slots (Some u), Totals.sum-set_vacant (refusals m) w.pool.out u.seen.number (Some u) (front_within w u h) (front_vacant w u h));
  };
  opening = record { dialect = refl; url = refl; size = refl; queries = refl; policy = refl; plan = refl; aims = λ h. h };
}

pub closed_keeps : (w : World) (u : View) → Invariant (in_front (Some u) w) → KeepsAll (in_front (Some u) w) (record { pool = gives_slot None w.pool; connector = takes_back u.seen w.connector })
closed_keeps w u h = record {
  holds = closed_front w u h;
  counts = record {
    later = omega arith;
    refusals_later = λ m. omega (arith, Totals.sum-first (refusals m) w.pool.slots (Some u), Totals.sum-last (refusals m) w.pool.slots None, Totals.sum-last_seen (refusals m) w.connector.returned u.seen);
  };
  opening = record { dialect = refl; url = refl; size = refl; queries = refl; policy = refl; plan = refl; aims = λ h. h };
}

-- ---- what is asked of it

-- by its reply
pub reply_is : (answer : Answer) → answer_reply (done_answer answer) ≡ reply_as answer
reply_is (Ok u) = refl
reply_is (Err e) = refl

-- the deed was done, unless memory was wanting
pub deed_done : (tells : Bool) (deed : Deed) (v u : View) (answer : Answer) (w : World) → AnswersDeed tells deed v u answer → answer ≢ Err OutOfMemory → IsDone tells w.pool.queries deed v u (done_answer answer)
deed_done tells deed v u answer w a memory = elim (a.asks w.pool.queries) [
  | inl wanted ↦ absurd (memory (no_memory answer wanted.0))
  | inr done ↦ done
]
  where
    no_memory : (x : Answer) → done_answer x ≡ Err OutOfMemory → x ≡ Err OutOfMemory
    no_memory (Ok u) e = absurd (cc)
    no_memory (Err e) g = (let same : e ≡ OutOfMemory = cc in ap (λ (x : Error). Err x) same)

-- the items that it reads, and what is known then
pub record ReadsFront (logs : ServerLogs) (w : World) (line : ℕ) (fresh : Bool) (deed : Option Deed) (v u : View) (e : Option PoolError) : Type 0 where
  pub items : List Item
  pub anew : BeginsAnew items
  pub known : IsKnown (with_more logs (only v.seen.number items)) (in_front (Some u) w)
  pub reads : ReadsReady (progress w) line fresh deed (seat_of v) items (seat_of u) e

module _ (tells : Bool) (line : ℕ) (fresh : Bool) (w : World) (v u : View) (holds : Invariant (in_front (Some v) w)) (logs : ServerLogs) (known : IsKnown logs (in_front (Some v) w)) (honest : tells ≡ true) where
  abbrev m : ℕ
  m = v.seen.number

  has : Has w.pool.dialect w.connector.armed logs v.seen
  has = known.servers.slots.0

  deed_reads : (deed : Deed) (reply : Reply) → Acts tells (process_of v.seen.dialect w.pool.queries v.status v.cache deed) v.seen u.seen (outcome reply u.status u.cache) → IsHonest u.seen → ReadsFront logs w line fresh (Some deed) v u (get_refusal fresh (seat_of u) reply)
  deed_reads deed reply acts after_honest =
      let r : HasRead false v.seen.dialect v.seen.armed (state_told v.seen) (process_of v.seen.dialect w.pool.queries v.status v.cache deed) (outcome reply u.status u.cache) (logs m) u.seen.log =
      reads_acts (process_of v.seen.dialect w.pool.queries v.status v.cache deed) v.seen u.seen (outcome reply u.status u.cache) (logs m) (state_told v.seen) (command_looks v.seen.dialect w.pool.queries v.status v.cache deed) has.log_is (state_of_log v.seen (logs m) has.honest has.log_is)
      (subst (λ (b : Bool). Acts b (process_of v.seen.dialect w.pool.queries v.status v.cache deed) v.seen u.seen (outcome reply u.status u.cache)) honest acts) in
      let state_is : Some (state_told u.seen) ≡ Some r.state = sym (state_of_log u.seen (logs m ++ r.more) after_honest r.is_log) ∙ ap (λ (d : Dialect). state_of d (logs m ++ r.more)) acts.same.dialect ∙ r.lawful in
      let state : state_told u.seen ≡ r.state = cc state_is in
      let read_so : ReadsItems w.pool.dialect (armed_of w.connector.armed) (state_told v.seen) (process_of w.pool.dialect w.pool.queries v.status v.cache deed) r.more (outcome reply u.status u.cache) (state_told u.seen) =
      subst (λ (d : Dialect). ReadsItems d (armed_of w.connector.armed) (state_told v.seen) (process_of d w.pool.queries v.status v.cache deed) r.more (outcome reply u.status u.cache) (state_told u.seen)) has.dialect_is
      (subst (λ (armed : List Armed). ReadsItems v.seen.dialect armed (state_told v.seen) (process_of v.seen.dialect w.pool.queries v.status v.cache deed) r.more (outcome reply u.status u.cache) (state_told u.seen)) has.armed_is
      (subst (λ (s : State). ReadsItems v.seen.dialect v.seen.armed (state_told v.seen) (process_of v.seen.dialect w.pool.queries v.status v.cache deed) r.more (outcome reply u.status u.cache) s) (sym state) r.reads)) in
      let mark : u.seen.sent ≡ v.seen.sent + length r.more =
      omega (arith, sent_of_log u.seen (logs m ++ r.more) after_honest r.is_log, sent_of_log v.seen (logs m) has.honest has.log_is, length-append (logs m) r.more) in
      record {
        items = r.more;
        anew = r.anew refl;
        known = known_front logs r.more w v u holds (record {
          honest = after_honest;
          dialect_is = acts.same.dialect ∙ has.dialect_is;
          armed_is = acts.same.armed ∙ has.armed_is;
          log_is = r.is_log ∙ ap (λ (t : List Item). Some (logs m ++ t)) (sym (only_same m r.more)) ∙ ap (λ (k : ℕ). Some (with_more logs (only m r.more) k)) (sym acts.same.number);
          orders = λ item. ap (λ (o : ℕ → Option Order). o item) acts.same.orders ∙ has.orders item ∙ ap (λ (k : ℕ). planned w.connector.armed k item) (sym acts.same.number);
        }) known;
        reads = ready_in_place (progress w) line fresh deed (seat_of v) (seat_of u) r.more reply read_so (r.anew refl) acts.same.number mark;
      }

  -- nothing is read where nothing is asked
  nothing_more : (n : ℕ) → with_more logs (only m []) n ≡ logs n
  nothing_more n = ap (λ (l : List Item). logs n ++ l) (only_none m n) ∙ append-nil (logs n)

  none_reads : u ≡ v → ReadsFront logs w line fresh None v u (get_refusal fresh (seat_of u) replies.Ok)
  none_reads same =
      subst (λ (x : View). ReadsFront logs w line fresh None v x (get_refusal fresh (seat_of x) replies.Ok)) (sym same) (record {
        items = [];
        anew = tt;
        known = known_same logs (with_more logs (only m [])) (in_front (Some v) w) nothing_more known;
        reads = still_in_place (progress w) line fresh (seat_of v);
      })

  -- what is asked of it, or nothing
  pub if_reads : (deed : Option Deed) (answer : Answer) → AnswersIf tells deed v u answer → answer ≢ Err OutOfMemory → ReadsFront logs w line fresh deed v u (get_refusal fresh (seat_of u) (reply_as answer))
  if_reads None answer a memory =
      subst (λ (r : Reply). ReadsFront logs w line fresh None v u (get_refusal fresh (seat_of u) r)) (sym (ap reply_as a.1)) (none_reads a.0)
  if_reads (Some deed) answer a memory =
      let done : IsDone tells w.pool.queries deed v u (done_answer answer) = deed_done tells deed v u answer w a memory in
      subst (λ (r : Reply). ReadsFront logs w line fresh (Some deed) v u (get_refusal fresh (seat_of u) r)) (reply_is answer) (deed_reads deed (answer_reply (done_answer answer)) done.acts (a.honest_after honest))

-- ---- whatever its server is

pub if_number : (tells : Bool) (deed : Option Deed) (v u : View) (answer : Answer) → AnswersIf tells deed v u answer → u.seen.number ≡ v.seen.number
if_number tells None v u answer a = ap (λ (x : View). x.seen.number) a.0
if_number tells (Some deed) v u answer a = elim (a.asks []) [
  | inl wanted ↦ wanted.1.number
  | inr done ↦ done.acts.same.number
]

pub if_later : (tells : Bool) (deed : Option Deed) (v u : View) (answer : Answer) → AnswersIf tells deed v u answer → v.seen.failures ≤ u.seen.failures
if_later tells None v u answer a = omega (arith, ap (λ (x : View). x.seen.failures) a.0)
if_later tells (Some deed) v u answer a = a.counted.later

pub if_answers : (tells : Bool) (deed : Option Deed) (v u : View) (answer : Answer) (w : World) → AnswersIf tells deed v u answer → answer ≢ Err OutOfMemory → AnswersReady deed (seat_of v) (seat_of u) (reply_as answer)
if_answers tells None v u answer w a memory = (ap seat_of a.0, ap reply_as a.1)
if_answers tells (Some deed) v u answer w a memory =
    let done : IsDone tells w.pool.queries deed v u (done_answer answer) = deed_done tells deed v u answer w a memory in
    subst (IsAnswer deed) (reply_is answer) (done.answers (λ e. memory (no_memory answer e)))
  where
    no_memory : (x : Answer) → done_answer x ≡ Err OutOfMemory → x ≡ Err OutOfMemory
    no_memory (Ok u) e = absurd (cc)
    no_memory (Err e) g = (let same : e ≡ OutOfMemory = cc in ap (λ (x : Error). Err x) same)

-- a refusal in the answer was counted, or its server is as it was before
pub if_refused : (tells : Bool) (deed : Option Deed) (v u : View) (e : Error) → AnswersIf tells deed v u (Err e) → IsRefusal (Err e) → ((kind : BlockKind) (answer : Answer) → deed ≡ Some (Close kind answer) → ⊥) → 0 < u.seen.failures
if_refused tells None v u e a refusal apart = absurd (cc (a.1))
if_refused tells (Some deed) v u e a refusal apart = elim (a.counted.refused refusal) [
  | inl rose ↦ omega (arith, rose)
  | inr blocks ↦ absurd (not_blocks deed blocks (λ kind answer same. apart kind answer (ap (λ (x : Deed). Some x) same)))
]
  where
    not_blocks : (x : Deed) → IsBlocks x (replies.Error e) → ((kind : BlockKind) (answer : Answer) → x ≡ Close kind answer → ⊥) → ⊥
    not_blocks (Close kind answer) b apart = apart kind answer refl
    not_blocks x b apart = absurd b
