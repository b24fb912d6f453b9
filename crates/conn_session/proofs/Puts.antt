-- `put`: where the connection isn't out, where it is kept, and where it is closed.
use Rattle.std.proofs.Common.{◌≡◌, ℕ, ◌+◌, Bool, true, false, cond, [], ◌∷◌, ◌++◌, Option, Some, None, refl, sym, ap, subst, ◌∙◌, arith, Ok}
use Rattle.std.specs.Prelude.{slice_set, sum_by}
use Rattle.conn_model.specs.Seen.{Seen}
use Rattle.conn_manager.specs.Views.{View}
use Rattle.conn_reading.specs.Answered.{ServerLogs, Progress, taken, reads, taken_put}
use Rattle.conn_reading.specs.Seats.{Seat, Context, at_number, entry_on, entry_without, is_kept, put_reply, put_slot}
use Rattle.conn_report.specs.declared.entry.Entry.{Entry}
use Rattle.conn_report.specs.declared.entry.Reply.TheVariants as replies
use Rattle.conn_script.specs.declared.request.Request.TheVariants.{Put}
use Rattle.conn_script.specs.declared.command.Word.TheVariants as words
use Rattle.conn_drivers.specs.Establishing.{AreAt}
use Rattle.conn_server.specs.Connected.{takes_back}
use Rattle.conn_session.specs.Known.{Has, IsKnown, progress}
use Rattle.conn_session.specs.Transfers.{gives_slot, puts_out}
use Rattle.conn_session.specs.Plays.{PlaysPut}
use Rattle.conn_session.specs.Responses.{seat_of}
use Rattle.conn_session.specs.Steps.{Steps, IsLater}
use Rattle.conn_session.specs.Worlds.{World, Invariant, part, refusals, context_of}
use Rattle.conn_session.proofs.Counts.{later-refl, no_cause, blocks_later, put_not_refused, put_not_unopened, opening-refl}
use Rattle.conn_session.proofs.Growing.{grows_nothing, everywhere-kept_back, everywhere-closed_back}
use Rattle.conn_session.proofs.Moving.{kept_back, closed_back}
use Rattle.conn_session.proofs.Shown.{seats-at, context-gives_slot}
use Rattle.conn_session.proofs.Totals

slot_kept : (b : Bool) (s : Seat) → b ≡ true → cond b (Some s) None ≡ Some s
slot_kept b s e = ap (λ (x : Bool). cond x (Some s) None) e

slot_closed : (b : Bool) (s : Seat) → b ≡ false → cond b (Some s) None ≡ None
slot_closed b s e = ap (λ (x : Bool). cond x (Some s) None) e

module _ (honest : Bool) (line n : ℕ) (w : World) (entry : Entry) where
  -- the connection isn't out
  pub put_absent : at_number n w.pool.out ≡ None → entry ≡ entry_without line words.Put (Some n) replies.NotOut → Invariant w → Steps honest line (Put n) w w (Ok entry)
  put_absent none entry_is holds =
      let there : at_number n (context_of w).out ≡ None = seats-at w.pool.out n None none in
      record {
        keeps = record { holds = holds; counts = later-refl w; opening = opening-refl w };
        plays_entry = subst (PlaysPut line n (context_of w) entry (context_of w)) (sym there) (record { entry_is = entry_is; context_is = refl });
        caused = λ b. (no_cause w w entry replies.NotOut (ap (λ (e : Entry). e.reply) entry_is) (λ h. h) (λ h. h), b);
        grows = λ _. grows_nothing (λ p logs. reads p logs line (Put n)) w w entry (λ logs known. known)
            (λ logs. ap (λ (o : Option Seat). Some (taken_put (progress w) logs line n o)) there ∙ ap (λ (e : Entry). Some (taken e (progress w) logs)) (sym entry_is));
      }

  -- what is said of both ways to give a connection back
  module _ (v : View) (new : World) (there : at_number n w.pool.out ≡ Some v) (entry_is : entry ≡ entry_on line words.Put (put_reply v.status) (seat_of v)) where
    given_back : context_of new ≡ record (context_of w) { slots = (context_of w).slots ++ put_slot (seat_of v) ∷ []; out = slice_set (context_of w).out n None } → Invariant new → IsLater w new → new.pool.blocks ≡ w.pool.blocks
        → progress new ≡ record (progress w) { context = context_of new } → new.pool.dialect ≡ w.pool.dialect → new.pool.url ≡ w.pool.url → new.pool.size ≡ w.pool.size → new.pool.queries ≡ w.pool.queries → new.pool.policy ≡ w.pool.policy → new.connector.targets ≡ w.connector.targets → new.connector.armed ≡ w.connector.armed
        → ((logs : ServerLogs) → IsKnown logs w → IsKnown logs new) → Steps honest line (Put n) w new (Ok entry)
    given_back shown holds counts blocks progress_is d t s q y a p kept = record {
      keeps = record {
        holds = holds;
        counts = counts;
        opening = record { dialect = d; url = t; size = s; queries = q; policy = y; plan = p; aims = λ h. subst (AreAt w.pool.dialect w.pool.url) (sym a) h };
      };
      plays_entry = subst (PlaysPut line n (context_of w) entry (context_of new)) (sym (seats-at w.pool.out n (Some v) there)) (record { entry_is = entry_is; context_is = shown });
      caused = λ b. (no_cause w new entry (put_reply v.status) (ap (λ (e : Entry). e.reply) entry_is) (put_not_refused v.status) (put_not_unopened v.status), blocks_later w new blocks counts b);
      grows = λ _. grows_nothing (λ p logs. reads p logs line (Put n)) w new entry kept
          (λ logs. ap (λ (o : Option Seat). Some (taken_put (progress w) logs line n o)) (seats-at w.pool.out n (Some v) there)
          ∙ ap (λ (c : Context). Some (taken (entry_on line words.Put (put_reply v.status) (seat_of v)) (record (progress w) { context = c }) logs)) (sym shown)
          ∙ ap (λ (p : Progress). Some (taken (entry_on line words.Put (put_reply v.status) (seat_of v)) p logs)) (sym progress_is)
          ∙ ap (λ (e : Entry). Some (taken e (progress new) logs)) (sym entry_is));
    }

  -- the connection is kept, in the slot at the back
  pub put_kept : (v : View) → at_number n w.pool.out ≡ Some v → is_kept v.status ≡ true → entry ≡ entry_on line words.Put replies.Kept (seat_of v) → Invariant w
      → Steps honest line (Put n) w (record w { pool = gives_slot (Some v) (puts_out n None w.pool) }) (Ok entry)
  put_kept v there kept entry_is holds =
      let new : World = record w { pool = gives_slot (Some v) (puts_out n None w.pool) } in
      let replied : entry ≡ entry_on line words.Put (put_reply v.status) (seat_of v) = entry_is ∙ ap (λ (b : Bool). entry_on line words.Put (cond b replies.Kept replies.Closed) (seat_of v)) (sym kept) in
      let out : (f : Seen → ℕ) → sum_by (part f) (slice_set w.pool.out n None) + f v.seen ≡ sum_by (part f) w.pool.out + 0 = λ f. Totals.sum-set_at f w.pool.out n v None there in
      let slots : (f : Seen → ℕ) → sum_by (part f) (w.pool.slots ++ Some v ∷ []) ≡ sum_by (part f) w.pool.slots + f v.seen = λ f. Totals.sum-last f w.pool.slots (Some v) in
      given_back v new there replied
      (context-gives_slot w n None (Some v) ∙ ap (λ (s : Option Seat). record (context_of w) { slots = (context_of w).slots ++ s ∷ []; out = slice_set (context_of w).out n None }) (sym (slot_kept (is_kept v.status) (seat_of v) kept)))
      (kept_back w n v there holds)
      (record { later = omega arith; refusals_later = λ m. omega (arith, out (refusals m), slots (refusals m)) })
      refl refl refl refl refl refl refl refl refl
      (λ logs known. record { servers = everywhere-kept_back (Has w.pool.dialect w.connector.armed logs) w n v there known.servers; fresh = known.fresh })

  -- the connection is closed, and the slot at the back is empty
  pub put_closed : (v : View) → at_number n w.pool.out ≡ Some v → is_kept v.status ≡ false → entry ≡ entry_on line words.Put replies.Closed (seat_of v) → Invariant w
      → Steps honest line (Put n) w (record { pool = gives_slot None (puts_out n None w.pool); connector = takes_back v.seen w.connector }) (Ok entry)
  put_closed v there closed entry_is holds =
      let new : World = record { pool = gives_slot None (puts_out n None w.pool); connector = takes_back v.seen w.connector } in
      let replied : entry ≡ entry_on line words.Put (put_reply v.status) (seat_of v) = entry_is ∙ ap (λ (b : Bool). entry_on line words.Put (cond b replies.Kept replies.Closed) (seat_of v)) (sym closed) in
      let out : (f : Seen → ℕ) → sum_by (part f) (slice_set w.pool.out n None) + f v.seen ≡ sum_by (part f) w.pool.out + 0 = λ f. Totals.sum-set_at f w.pool.out n v None there in
      let slots : (f : Seen → ℕ) → sum_by (part f) (w.pool.slots ++ None ∷ []) ≡ sum_by (part f) w.pool.slots + 0 = λ f. Totals.sum-last f w.pool.slots None in
      let back : (f : Seen → ℕ) → sum_by f (w.connector.returned ++ v.seen ∷ []) ≡ sum_by f w.connector.returned + f v.seen = λ f. Totals.sum-last_seen f w.connector.returned v.seen in
      given_back v new there replied
      (context-gives_slot w n None None ∙ ap (λ (s : Option Seat). record (context_of w) { slots = (context_of w).slots ++ s ∷ []; out = slice_set (context_of w).out n None }) (sym (slot_closed (is_kept v.status) (seat_of v) closed)))
      (closed_back w n v there holds)
      (record { later = omega arith; refusals_later = λ m. omega (arith, out (refusals m), slots (refusals m), back (refusals m)) })
      refl refl refl refl refl refl refl refl refl
      (λ logs known. record { servers = everywhere-closed_back (Has w.pool.dialect w.connector.armed logs) w n v there known.servers; fresh = known.fresh })
