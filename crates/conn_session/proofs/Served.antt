-- `get` has a connection in hand, which was asked what is asked, and hands it out or closes it.
use Rattle.std.proofs.Common.{◌≡◌, ℕ, ◌<◌, Bool, true, List, [], ◌∷◌, ◌++◌, length, Option, Some, None, refl, sym, ap, subst, ◌∙◌, arith, inl, inr, Ok}
use Rattle.std.specs.Prelude.{sum_by}
use Rattle.std.specs.Option.{option_and_then, option_map}
use Rattle.std.proofs.lemmas.Bool.{cases_lt}
use Rattle.std.proofs.lemmas.List.Sums.{sum_by-cons}
use Rattle.conn_result.specs.declared.pool.Error.{Error as PoolError}
use Rattle.conn_model.specs.Seen.{Seen}
use Rattle.conn_manager.specs.Views.{View}
use Rattle.conn_reading.specs.Answered.{ServerLogs, closed_entry, readied, reads}
use Rattle.conn_reading.specs.Readings.{ReadsEntry}
use Rattle.conn_reading.specs.Seats.{Seat, Context, entry_on, make_entry}
use Rattle.conn_report.specs.declared.entry.Entry.{Entry}
use Rattle.conn_report.specs.declared.entry.Reply.TheVariants as replies
use Rattle.conn_script.specs.declared.command.Word.TheVariants as words
use Rattle.conn_script.specs.declared.request.Request.TheVariants.{Get}
use Rattle.conn_server.specs.Connected.{first_returned, sent_by, takes_back}
use Rattle.conn_session.specs.Known.{Has, IsKnown, progress, with_more}
use Rattle.conn_session.specs.Plays.{PlaysGet, ready_context, ready_entry}
use Rattle.conn_session.specs.Responses.{IsConnectors, IsRefused, IsServers, IsUnopened, seat_of}
use Rattle.conn_session.specs.Steps.{KeepsAll, Steps, fault_of}
use Rattle.conn_session.specs.Transfers.{gives_slot, in_front, puts_out}
use Rattle.conn_session.specs.Worlds.{World, Invariant, context_of, of_number, refusals}
use Rattle.conn_session.proofs.Counts.{blocks_later, no_cause}
use Rattle.conn_session.proofs.Fronts.{closed_keeps, handed_keeps}
use Rattle.conn_session.proofs.Growing.{everywhere-closed, everywhere-handed_out}
use Rattle.conn_session.proofs.Honest.{sent_of_log}
use Rattle.conn_session.proofs.Runs.{keeps-trans}
use Rattle.conn_session.proofs.Shown.{context-puts_out, seats-last}
use Rattle.conn_session.proofs.Totals

-- why it isn't handed out, where it isn't
abbrev pub IsServersIf : Option PoolError → Type 0
IsServersIf None = ⊥
IsServersIf (Some e) = IsServers e

abbrev pub IsConnectorsIf : Option PoolError → Type 0
IsConnectorsIf None = ⊥
IsConnectorsIf (Some e) = IsConnectors e

-- how the entry is read, whatever else the logs have
abbrev pub ReadsGet : ℕ → World → ServerLogs → World → View → Option PoolError → Type 0
ReadsGet line a items w u e = let t = readied (progress w) (λ k. []) line (seat_of u) e in ReadsEntry (λ p logs. reads p logs line Get) (progress a) items t.entry t.progress

-- from one world to another, in which it is in hand, with this reason to close it or none
pub record Readies (honest : Bool) (line : ℕ) (a w : World) (u : View) (e : Option PoolError) : Type 0 where
  pub keeps : KeepsAll a (in_front (Some u) w)
  pub blocks : w.pool.blocks ≡ a.pool.blocks
  pub refused : IsServersIf e → 0 < u.seen.failures
  pub unopened : IsConnectorsIf e → ⊥
  pub reads : honest ≡ true → (logs : ServerLogs) → IsKnown logs a → (items : ServerLogs) × IsKnown (with_more logs items) (in_front (Some u) w) × ReadsGet line a items w u e
  pub plays : (mark : Option ℕ) (entry : Entry) (new : Context) → entry ≡ ready_entry line (seat_of u) mark e → new ≡ ready_context (context_of w) (seat_of u) e
      → PlaysGet (fault_of a) a.pool.policy line (context_of a) entry new (context_of a).slots

-- the first of a number is the last, where none was there
pub first-last : (n : ℕ) (ss : List Seen) (s : Seen) → sum_by (of_number n) ss ≡ 0 → s.number ≡ n → first_returned n (ss ++ s ∷ []) ≡ Some s
first-last n [] s none e = grind arith
first-last n (t ∷ ts) s none e = grind (arith, none, sum_by-cons (of_number n) t ts, first-last n ts s (omega (arith, none, sum_by-cons (of_number n) t ts)) e)

module _ (honest : Bool) (line : ℕ) (a w : World) (u : View) where
  -- it is handed out
  pub hands_out : (entry : Entry) → Readies honest line a w u None → entry ≡ entry_on line words.Get replies.Ok (seat_of u) → Steps honest line Get a (record w { pool = puts_out u.seen.number (Some u) w.pool }) (Ok entry)
  hands_out entry r entry_is =
      let b : World = in_front (Some u) w in
      let new : World = record w { pool = puts_out u.seen.number (Some u) w.pool } in
      let keeps : KeepsAll a new = keeps-trans a b new r.keeps (handed_keeps w u r.keeps.holds) in
      let shown : context_of new ≡ ready_context (context_of w) (seat_of u) None = context-puts_out w u.seen.number (Some u) in
      record {
        keeps = keeps;
        plays_entry = r.plays None entry (context_of new) entry_is shown;
        caused = λ c. (no_cause a new entry replies.Ok (ap (λ (e : Entry). e.reply) entry_is) (λ h. h) (λ h. h), blocks_later a new r.blocks keeps.counts c);
        grows = λ h logs known.
            let read = r.reads h logs known in (
              read.0,
              record { servers = everywhere-handed_out (Has w.pool.dialect w.connector.armed (with_more logs read.0)) w u read.1.servers; fresh = read.1.fresh },
              subst (λ (e : Entry). ReadsEntry (λ p logs. reads p logs line Get) (progress a) read.0 e (progress new)) (sym entry_is)
                  (subst (λ (c : Context). ReadsEntry (λ p logs. reads p logs line Get) (progress a) read.0 (entry_on line words.Get replies.Ok (seat_of u)) (record (progress w) { context = c })) (sym shown) read.2),
            );
      }

  -- it is closed, and its slot is at the back
  pub closes_it : (e : PoolError) (entry : Entry) → Readies honest line a w u (Some e)
      → entry ≡ make_entry line words.Get (Some u.seen.number) (replies.Pool e) None (sent_by u.seen.number (w.connector.returned ++ u.seen ∷ []))
      → Steps honest line Get a (record { pool = gives_slot None w.pool; connector = takes_back u.seen w.connector }) (Ok entry)
  closes_it e entry r entry_is =
      let b : World = in_front (Some u) w in
      let n : ℕ = u.seen.number in
      let new : World = record { pool = gives_slot None w.pool; connector = takes_back u.seen w.connector } in
      let keeps : KeepsAll a new = keeps-trans a b new r.keeps (closed_keeps w u r.keeps.holds) in
      let mark : Option ℕ = sent_by n (w.connector.returned ++ u.seen ∷ []) in
      let reply : entry.reply ≡ replies.Pool e = ap (λ (x : Entry). x.reply) entry_is in
      let shown : context_of new ≡ ready_context (context_of w) (seat_of u) (Some e) = ap (λ (s : List (Option Seat)). record (context_of w) { slots = s }) (seats-last w.pool.slots None) in
      record {
        keeps = keeps;
        plays_entry = r.plays mark entry (context_of new) entry_is shown;
        caused = λ c. (
          record {
            refused = λ h. (
              n,
              ap (λ (x : Entry). x.connection) entry_is,
              omega (arith, r.refused (subst IsRefused reply h), Totals.refusals_here n u.seen refl, Totals.sum-last_seen (refusals n) w.connector.returned u.seen),
            );
            unopened = λ h. absurd (r.unopened (subst IsUnopened reply h));
          },
          blocks_later a new r.blocks keeps.counts c,
        );
        grows = λ h logs known.
            let read = r.reads h logs known in
            let has = read.1.servers.slots.0 in
            let count : ℕ = u.seen.sent in
            let told : mark ≡ Some count =
            ap (option_and_then (λ (t : Seen). option_map length t.log)) (first-last n w.connector.returned u.seen (back_none r.keeps.holds) refl)
            ∙ ap (option_map length) has.log_is ∙ ap (λ (k : ℕ). Some k) (sym (sent_of_log u.seen (with_more logs read.0 n) has.honest has.log_is)) in
            let is : entry ≡ closed_entry line (seat_of u) e = entry_is ∙ ap (λ (k : Option ℕ). make_entry line words.Get (Some n) (replies.Pool e) None k) told in (
              read.0,
              record { servers = everywhere-closed (Has w.pool.dialect w.connector.armed (with_more logs read.0)) w u read.1.servers; fresh = read.1.fresh },
              subst (λ (x : Entry). ReadsEntry (λ p logs. reads p logs line Get) (progress a) read.0 x (progress new)) (sym is)
                  (subst (λ (c : Context). ReadsEntry (λ p logs. reads p logs line Get) (progress a) read.0 (closed_entry line (seat_of u) e) (record (progress w) { context = c })) (sym shown) read.2),
            );
      }
    where
      back_none : Invariant (in_front (Some u) w) → sum_by (of_number u.seen.number) w.connector.returned ≡ 0
      back_none h = elim (cases_lt u.seen.number w.connector.opened) [
        | inl l ↦ omega (arith, h.accounts.once u.seen.number l, Totals.sum-first (of_number u.seen.number) w.pool.slots (Some u), Totals.number_here u.seen.number u.seen refl)
        | inr le ↦ absurd (omega (arith, h.accounts.none u.seen.number le, Totals.sum-first (of_number u.seen.number) w.pool.slots (Some u), Totals.number_here u.seen.number u.seen refl))
      ]
