-- A deed: where its connection isn't out, and where it was done.
use Rattle.std.proofs.Common.{◌≡◌, ℕ, ◌+◌, Bool, true, false, List, ◌++◌, length, Option, Some, None, refl, sym, ap, subst, ◌∙◌, arith, Ok, Err, Result, inl, inr}
use Rattle.std.specs.Option.{option_map}
use Rattle.std.specs.declared.alloc.AllocError.{AllocError}
use Rattle.std.proofs.lemmas.List.{length-append}
use Rattle.conn_model.specs.Acts.{Acts}
use Rattle.conn_model.specs.Armed.{Armed, armed_of}
use Rattle.conn_model.specs.Seen.{IsHonest}
use Rattle.conn_model.specs.States.{State, state_of}
use Rattle.conn_model.specs.declared.item.Dialect.{Dialect}
use Rattle.conn_model.specs.declared.item.Item.{Item}
use Rattle.conn_model.specs.declared.plan.Order.{Order}
use Rattle.conn_manager.specs.Views.{View}
use Rattle.conn_reading.specs.Answered.{ServerLogs, Progress, Taken, taken, reads_on}
use Rattle.conn_reading.specs.Asking.{outcome, process_of}
use Rattle.conn_reading.specs.Reading.{ReadsItems}
use Rattle.conn_reading.specs.Readings.{ReadsEntry}
use Rattle.conn_reading.specs.Seats.{Seat, Context, at_number, entry_on, entry_without}
use Rattle.conn_reading.specs.declared.deed.Deed.{Deed}
use Rattle.conn_reading.proofs.Appends.{HasRead, reads_acts}
use Rattle.conn_reading.proofs.InPlace.{only, only_same, reads_in_place}
use Rattle.conn_reading.proofs.Owned.{command_looks}
use Rattle.conn_report.specs.declared.entry.Entry.{Entry}
use Rattle.conn_report.specs.declared.entry.Reply.{Reply}
use Rattle.conn_report.specs.declared.entry.Reply.TheVariants as replies
use Rattle.conn_script.specs.declared.command.Word.{Word}
use Rattle.conn_script.specs.declared.query.Declared.{Declared}
use Rattle.conn_server.specs.Ordered.{planned}
use Rattle.conn_session.specs.Known.{Has, OfServer, Grows, progress, with_more}
use Rattle.conn_session.specs.Transfers.{puts_out}
use Rattle.conn_session.specs.Plays.{PlaysOn}
use Rattle.conn_session.specs.Responses.{ActsIn, Does, Replies, IsRefused, IsBlocks, IsUnopened, seat_of, state_told}
use Rattle.conn_session.specs.Steps.{DoesOn, IsCausedOn, KeepsAll, entry_at, entered}
use Rattle.conn_session.specs.Worlds.{World, Invariant, refusals, context_of}
use Rattle.conn_session.proofs.Counts.{later-refl, opening-refl, answers_open}
use Rattle.conn_session.proofs.Growing.{grows_nothing, known_grown}
use Rattle.conn_session.proofs.Honest.{state_of_log, sent_of_log}
use Rattle.conn_session.proofs.Moving.{asked_out, vacant_same}
use Rattle.conn_session.proofs.Numbers.{at_number-set}
use Rattle.conn_session.proofs.Shown.{seats-at, context-puts_out}
use Rattle.conn_session.proofs.Totals

-- the entry shows the reply to a deed, and the connection after it
record Shows (honest : Bool) (queries : List Declared) (line : ℕ) (word : Word) (deed : Deed) (old new : View) (entry : Entry) : Type 0 where
  reply : Reply
  answered : Replies honest queries deed old new reply
  entry_is : entry ≡ entry_on line word reply (seat_of new)

module _ (honest tells : Bool) (honest_tells : honest ≡ true → tells ≡ true) (line n : ℕ) (word : Word) (deed : Deed) (w : World) where
  -- how it is read
  abbrev reads_in : Progress → ServerLogs → Option Taken
  reads_in p logs = reads_on p logs line word deed n (at_number n p.context.out)

  -- its connection isn't out
  pub on_absent : at_number n w.pool.out ≡ None → Invariant w → DoesOn honest line n word deed w w (entered line word n w (Ok replies.NotOut))
  on_absent none holds =
      let there : at_number n (context_of w).out ≡ None = seats-at w.pool.out n None none in
      let entry : Entry = entry_at line word n replies.NotOut (at_number n (context_of w).out) in
      let entry_is : entry ≡ entry_without line word (Some n) replies.NotOut = ap (entry_at line word n replies.NotOut) there in
      record {
        keeps = record { holds = holds; counts = later-refl w; opening = opening-refl w };
        blocks = refl;
        plays_entry = subst (PlaysOn line word deed n (context_of w) entry (context_of w)) (sym there) (record { entry_is = entry_is; context_is = refl });
        caused = record {
          on = ap (λ (e : Entry). e.connection) entry_is;
          refused = λ h. absurd (subst IsRefused (ap (λ (e : Entry). e.reply) entry_is) h);
          opened = subst IsUnopened (ap (λ (e : Entry). e.reply) entry_is);
        };
        grows = λ _. grows_nothing reads_in w w entry (λ logs known. known)
            (λ logs. ap (λ (o : Option Seat). reads_on (progress w) logs line word deed n o) there ∙ ap (λ (e : Entry). Some (taken e (progress w) logs)) (sym entry_is));
      }

  -- what its log grew by is read for it
  module _ (v u : View) (entry : Entry) (there : at_number n w.pool.out ≡ Some v) (shown : Shows tells w.pool.queries line word deed v u entry) (holds : Invariant w) where
    read_grown : honest ≡ true → IsHonest u.seen → Grows reads_in w (record w { pool = puts_out n (Some u) w.pool }) entry
    read_grown h after_honest = λ logs known.
        let acts = shown.answered.acts in
        let reply = shown.reply in
        let m = v.seen.number in
        let has : Has w.pool.dialect w.connector.armed logs v.seen = Totals.all-at (Has w.pool.dialect w.connector.armed logs) w.pool.out n v there known.servers.out in
        let r : HasRead false v.seen.dialect v.seen.armed (state_told v.seen) (process_of v.seen.dialect w.pool.queries v.status v.cache deed) (outcome reply u.status u.cache) (logs m) u.seen.log =
        reads_acts (process_of v.seen.dialect w.pool.queries v.status v.cache deed) v.seen u.seen (outcome reply u.status u.cache) (logs m) (state_told v.seen) (command_looks v.seen.dialect w.pool.queries v.status v.cache deed) has.log_is (state_of_log v.seen (logs m) has.honest has.log_is)
        (subst (λ (b : Bool). Acts b (process_of v.seen.dialect w.pool.queries v.status v.cache deed) v.seen u.seen (outcome reply u.status u.cache)) (honest_tells h) acts) in
        let state_is : Some (state_told u.seen) ≡ Some r.state = sym (state_of_log u.seen (logs m ++ r.more) after_honest r.is_log) ∙ ap (λ (d : Dialect). state_of d (logs m ++ r.more)) acts.same.dialect ∙ r.lawful in
        let state : state_told u.seen ≡ r.state = cc state_is in
        let dialect : v.seen.dialect ≡ w.pool.dialect = has.dialect_is in
        let read_so : ReadsItems w.pool.dialect (armed_of w.connector.armed) (state_told v.seen) (process_of w.pool.dialect w.pool.queries v.status v.cache deed) r.more (outcome reply u.status u.cache) (state_told u.seen) =
        subst (λ (d : Dialect). ReadsItems d (armed_of w.connector.armed) (state_told v.seen) (process_of d w.pool.queries v.status v.cache deed) r.more (outcome reply u.status u.cache) (state_told u.seen)) dialect
        (subst (λ (armed : List Armed). ReadsItems v.seen.dialect armed (state_told v.seen) (process_of v.seen.dialect w.pool.queries v.status v.cache deed) r.more (outcome reply u.status u.cache) (state_told u.seen)) has.armed_is
        (subst (λ (s : State). ReadsItems v.seen.dialect v.seen.armed (state_told v.seen) (process_of v.seen.dialect w.pool.queries v.status v.cache deed) r.more (outcome reply u.status u.cache) s) (sym state) r.reads)) in
        let mark : u.seen.sent ≡ v.seen.sent + length r.more =
        omega (arith, sent_of_log u.seen (logs m ++ r.more) after_honest r.is_log, sent_of_log v.seen (logs m) has.honest has.log_is, length-append (logs m) r.more) in
        let taken_so = reads_in_place (progress w) line word deed n (seat_of v) (seat_of u) r.more reply (seats-at w.pool.out n (Some v) there) read_so (r.anew refl) acts.same.number mark in (
          only m r.more,
          known_grown logs r.more w n v u holds there (record {
            honest = after_honest;
            dialect_is = acts.same.dialect ∙ has.dialect_is;
            armed_is = acts.same.armed ∙ has.armed_is;
            log_is = r.is_log ∙ ap (λ (t : List Item). Some (logs m ++ t)) (sym (only_same m r.more)) ∙ ap (λ (k : ℕ). Some (with_more logs (only m r.more) k)) (sym acts.same.number);
            orders = λ item. ap (λ (o : ℕ → Option Order). o item) acts.same.orders ∙ has.orders item ∙ ap (λ (k : ℕ). planned w.connector.armed k item) (sym acts.same.number);
          }) known,
          subst (λ (e : Entry). ReadsEntry reads_in (progress w) (only m r.more) e (progress (record w { pool = puts_out n (Some u) w.pool }))) (sym shown.entry_is)
              (subst (λ (c : Context). ReadsEntry reads_in (progress w) (only m r.more) (entry_on line word reply (seat_of u)) (record (progress w) { context = c })) (sym (context-puts_out w n (Some u))) taken_so),
        )

    -- the number of the connection
    numbered : u.seen.number ≡ n
    numbered = omega (arith, shown.answered.acts.same.number, Totals.placed-at 0 w.pool.out n v there holds.placed)

    caused_there : IsCausedOn n deed (record w { pool = puts_out n (Some u) w.pool }) entry
    caused_there =
        let reply_is : entry.reply ≡ shown.reply = ap (λ (e : Entry). e.reply) shown.entry_is in
        record {
          on = ap (λ (e : Entry). e.connection) shown.entry_is ∙ ap (λ (m : ℕ). Some m) numbered;
          refused = λ h. elim (shown.answered.counted.refused (subst IsRefused reply_is h)) [
            | inl rose ↦ inl (omega (arith, rose, Totals.refusals_here n u.seen numbered, Totals.sum-set_at (refusals n) w.pool.out n v (Some u) there, Totals.sum-at (refusals n) w.pool.out n v there))
            | inr blocks ↦ inr (subst (IsBlocks deed) (sym reply_is) blocks)
          ];
          opened = λ h. answers_open deed shown.reply shown.answered.answer (subst IsUnopened reply_is h);
        }

  -- it was done, or there was no memory for it
  pub on_answered : (v u : View) (result : Result Reply AllocError) → at_number n w.pool.out ≡ Some v → Does tells w.pool.queries deed v u result → (honest ≡ true → IsHonest u.seen) → Invariant w
      → DoesOn honest line n word deed w (record w { pool = puts_out n (Some u) w.pool }) (entered line word n (record w { pool = puts_out n (Some u) w.pool }) result)
  on_answered v u result there does is_honest holds = by_result result does
    where
      new : World
      new = record w { pool = puts_out n (Some u) w.pool }

      keeps : (result : Result Reply AllocError) → Does tells w.pool.queries deed v u result → KeepsAll w new
      keeps result does = record {
        holds = asked_out w n v u there does.same.number holds;
        counts = record {
          later = omega arith;
          refusals_later = λ m. omega (arith, Totals.sum-set_at (refusals m) w.pool.out n v (Some u) there, Totals.refusals_later m v.seen u.seen does.same.number does.later);
        };
        opening = record { dialect = refl; url = refl; size = refl; queries = refl; policy = refl; plan = refl; aims = λ h. h };
      }

      by_result : (result : Result Reply AllocError) → Does tells w.pool.queries deed v u result → DoesOn honest line n word deed w new (entered line word n new result)
      by_result (Err e) does = record { keeps = keeps (Err e) does; blocks = refl; plays_entry = tt; caused = tt; grows = λ _. tt }
      by_result (Ok reply) does =
          let entry : Entry = entry_at line word n reply (at_number n (context_of new).out) in
          let entry_is : entry ≡ entry_on line word reply (seat_of u) = ap (entry_at line word n reply) (seats-at new.pool.out n (Some u) (at_number-set n w.pool.out v (Some u) there)) in
          let shown : Shows tells w.pool.queries line word deed v u entry = record { reply = reply; answered = does.answered; entry_is = entry_is } in
          record {
            keeps = keeps (Ok reply) does;
            blocks = refl;
            plays_entry = subst (PlaysOn line word deed n (context_of w) entry (context_of new)) (sym (seats-at w.pool.out n (Some v) there)) (record {
              reply = reply;
              after = seat_of u;
              answer = does.answered.answer;
              numbered = does.same.number;
              entry_is = entry_is;
              context_is = context-puts_out w n (Some u);
            });
            caused = caused_there v u entry there shown holds;
            grows = λ h. read_grown v u entry there shown holds h (is_honest h);
          }

-- ---- at a place

-- each connection of an honest server has an honest server
pub honest_place : {C : Type 0} (view : C → View) → ((c : C) → IsHonest (view c).seen) → (place : Option C) → OfServer IsHonest (option_map view place)
honest_place view honest None = tt
honest_place view honest (Some c) = honest c

module _ (honest tells : Bool) (honest_tells : honest ≡ true → tells ≡ true) (line n : ℕ) (word : Word) (deed : Deed) (w : World) where
  pub on_place : (o new : Option View) (result : Result Reply AllocError) → at_number n w.pool.out ≡ o → ActsIn tells w.pool.queries deed o new (Some result) → (honest ≡ true → OfServer IsHonest new) → Invariant w
      → DoesOn honest line n word deed w (record w { pool = puts_out n new w.pool }) (entered line word n (record w { pool = puts_out n new w.pool }) result)
  on_place None new result there acts is_honest holds = absurd (cc (acts.1))
  on_place (Some v) None result there acts is_honest holds = absurd acts
  on_place (Some v) (Some u) result there acts is_honest holds = on_answered honest tells honest_tells line n word deed w v u result there acts is_honest holds

module _ (tells : Bool) (n : ℕ) (deed : Deed) (w : World) where
  -- nothing was there
  pub on_left : (o new : Option View) → at_number n w.pool.out ≡ o → ActsIn tells w.pool.queries deed o new None → (at_number n w.pool.out ≡ None) × (puts_out n new w.pool ≡ w.pool)
  on_left None new there acts = (there, ap (λ (x : Option View). puts_out n x w.pool) acts.0 ∙ vacant_same w.pool n there)
  on_left (Some v) None there acts = absurd acts
  on_left (Some v) (Some u) there acts = absurd acts
