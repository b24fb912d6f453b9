-- `get` where no slot is free, and where the front one has a connection.
use Rattle.std.proofs.Common.{◌≡◌, ◌≢◌, ℕ, ◌<◌, Bool, true, false, List, [], Option, Some, None, refl, sym, ap, subst, ◌∙◌, Ok, Err}
use Rattle.conn_result.specs.declared.error.Error.TheVariants.{OutOfMemory}
use Rattle.conn_result.specs.declared.pool.Error.{Error as PoolError}
use Rattle.conn_manager.specs.Manages.{Reply as Answer}
use Rattle.conn_manager.specs.Views.{View}
use Rattle.conn_reading.specs.Answered.{taken, reads_get, reads, get_refusal}
use Rattle.conn_reading.specs.Asking.{check_deed, reply_as}
use Rattle.conn_reading.specs.Seats.{Seat, entry_without}
use Rattle.conn_reading.specs.declared.deed.Deed.{Deed}
use Rattle.conn_reading.specs.declared.deed.Deed.TheVariants.{Close}
use Rattle.conn_reading.proofs.InPlace.{kept_in_place, only}
use Rattle.conn_report.specs.declared.entry.Entry.{Entry}
use Rattle.conn_report.specs.declared.entry.Reply.TheVariants as replies
use Rattle.conn_script.specs.declared.command.BlockKind.{BlockKind}
use Rattle.conn_script.specs.declared.request.Request.TheVariants.{Get}
use Rattle.conn_script.specs.declared.command.Word.TheVariants as words
use Rattle.conn_session.specs.Customizing.{AnswersIf}
use Rattle.conn_session.specs.Known.{progress}
use Rattle.conn_session.specs.Transfers.{in_front}
use Rattle.conn_session.specs.Plays.{PlaysGet}
use Rattle.conn_session.specs.Responses.{seat_of}
use Rattle.conn_session.specs.Steps.{fault_of, Steps}
use Rattle.conn_session.specs.Worlds.{World, Invariant, context_of, seats_of}
use Rattle.conn_session.proofs.Counts.{later-refl, no_cause, opening-refl}
use Rattle.conn_session.proofs.Fronts.{asked_keeps, if_answers, if_later, if_number, if_reads, if_refused}
use Rattle.conn_session.proofs.Growing.{grows_nothing}
use Rattle.conn_session.proofs.Served.{IsConnectorsIf, IsServersIf, Readies}

-- no slot is free
pub get_none : (honest : Bool) (line : ℕ) (w : World) (entry : Entry) → w.pool.slots ≡ [] → entry ≡ entry_without line words.Get None replies.NoneFree → Invariant w → Steps honest line Get w w (Ok entry)
get_none honest line w entry none entry_is holds =
    let slots : (context_of w).slots ≡ [] = ap seats_of none in
    record {
      keeps = record { holds = holds; counts = later-refl w; opening = opening-refl w };
      plays_entry = subst (PlaysGet (fault_of w) w.pool.policy line (context_of w) entry (context_of w)) (sym slots) (record { entry_is = entry_is; context_is = refl });
      caused = λ b. (no_cause w w entry replies.NoneFree (ap (λ (e : Entry). e.reply) entry_is) (λ h. h) (λ h. h), b);
      grows = λ _. grows_nothing (λ p logs. reads p logs line Get) w w entry (λ logs known. known)
          (λ logs. ap (λ (s : List (Option Seat)). reads_get (progress w) logs line s) slots ∙ ap (λ (e : Entry). Some (taken e (progress w) logs)) (sym entry_is));
    }

-- the front slot has a connection, of which what is asked of kept ones was asked
module _ (honest tells : Bool) (honest_tells : honest ≡ true → tells ≡ true) (line : ℕ) (w : World) (v u : View) (holds : Invariant (in_front (Some v) w)) (answer : Answer) (a : AnswersIf tells (check_deed w.pool.policy.check) v u answer) (memory : answer ≢ Err OutOfMemory) where
  abbrev old : World
  old = in_front (Some v) w

  abbrev deed : Option Deed
  deed = check_deed w.pool.policy.check

  abbrev refusal : Option PoolError
  refusal = get_refusal false (seat_of u) (reply_as answer)

  -- a check closes no block
  checks_apart : (check : Bool) (kind : BlockKind) (x : Answer) → check_deed check ≡ Some (Close kind x) → ⊥
  checks_apart true kind x e = absurd (cc)
  checks_apart false kind x e = absurd (cc)

  refused : (x : Answer) → AnswersIf tells deed v u x → IsServersIf (get_refusal false (seat_of u) (reply_as x)) → 0 < u.seen.failures
  refused (Ok t) b h = absurd h
  refused (Err e) b h = if_refused tells deed v u e b h (checks_apart w.pool.policy.check)

  not_connectors : (x : Answer) → IsConnectorsIf (get_refusal false (seat_of u) (reply_as x)) → ⊥
  not_connectors (Ok t) h = h
  not_connectors (Err e) h = h

  pub ready_kept : Readies honest line old w u refusal
  ready_kept = record {
    keeps = asked_keeps w v u (if_number tells deed v u answer a) (if_later tells deed v u answer a) holds;
    blocks = refl;
    refused = refused answer a;
    unopened = not_connectors answer;
    reads = λ h logs known.
        let r = if_reads tells line false w v u holds logs known (honest_tells h) deed answer a memory in
        (only v.seen.number r.items, r.known, kept_in_place (progress old) line (seats_of w.pool.slots) (seat_of v) (seat_of u) r.items refusal refl r.reads);
    plays = λ mark entry new entry_is context_is. record {
      after = seat_of u;
      reply = reply_as answer;
      mark = mark;
      numbered = if_number tells deed v u answer a;
      answers = if_answers tells deed v u answer w a memory;
      entry_is = entry_is;
      context_is = context_is;
    };
  }
