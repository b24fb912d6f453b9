-- `get` where the slot in front is empty: a connection is opened for it, or none is.
use Rattle.std.proofs.Common.{◌≡◌, ◌≢◌, ℕ, ◌+◌, ◌-◌, ◌<◌, ◌≤◌, ◌⊎◌, Bool, true, false, cond, if◌then◌else◌, List, [], ◌∷◌, ◌++◌, length, Option, Some, None, refl, sym, ap, subst, ◌∙◌, arith, Ok, Err, Result, inl, inr, append-nil, append_assoc}
use Rattle.std.specs.Prelude.{sum_by, ℤ, min, ◌^◌, ◌==◌}
use Rattle.std.specs.Option.{option_map, option_and_then}
use Rattle.std.specs.Result.{result_err}
use Rattle.std.specs.declared.alloc.AllocError.{AllocError}
use Rattle.conn_result.specs.declared.error.ConnectionError.{ConnectionError}
use Rattle.conn_result.specs.declared.error.ConnectionError.TheVariants.{InvalidCString, BadConnection, InvalidConnectionUrl, CouldntSetupConfiguration, OutOfMemory as no_memory}
use Rattle.conn_result.specs.declared.error.Error.{Error}
use Rattle.conn_result.specs.declared.error.Error.TheVariants.{DatabaseError, OutOfMemory}
use Rattle.conn_result.specs.declared.pool.Error.{Error as PoolError}
use Rattle.conn_result.specs.declared.pool.Error.TheVariants as pooling
use Rattle.conn_result.specs.Causes.{Rose}
use Rattle.conn_result.specs.PoolErrors.{opening_error}
use Rattle.conn_model.specs.Acts.{Acts}
use Rattle.conn_model.specs.Caches.{Known, nothing_known}
use Rattle.conn_model.specs.Armed.{Armed, armed_of}
use Rattle.conn_model.specs.Process.{Process, Sent, Follows}
use Rattle.conn_model.specs.Seen.{Seen}
use Rattle.conn_model.specs.States.{State, Idle, state_of}
use Rattle.conn_model.specs.declared.item.Dialect.{Dialect}
use Rattle.conn_model.specs.declared.item.Dialect.TheVariants.{Pg, Mysql, Sqlite}
use Rattle.conn_model.specs.declared.item.Refusal.{Refusal}
use Rattle.conn_model.specs.declared.item.Item.{Item}
use Rattle.conn_model.specs.declared.plan.Order.{Order}
use Rattle.conn_model.specs.declared.plan.PlanLine.{PlanLine}
use Rattle.conn_model.specs.declared.plan.Target.{Target}
use Rattle.conn_drivers.specs.Establishing.{AreAt, target_in, url_fault, OpensAt, SetsUp, FailsToEstablish}
use Rattle.conn_manager.specs.Manages.{Done, done, Reply}
use Rattle.conn_manager.specs.Setups.{setup_texts, run_text, run_ready, execute_text, execute_texts, unless_refused, setup_process}
use Rattle.conn_manager.specs.Statuses.{Status, is_broken, no_depth, retold, reply_of}
use Rattle.conn_manager.specs.Views.{View}
use Rattle.conn_reading.specs.Answered.{ServerLogs, Progress, Taken, taken, readied, reads_opened, reads_opening, reads_attempt, reads, get_refusal, with_opened}
use Rattle.conn_reading.specs.Asking.{customizer_deed, reply_as}
use Rattle.conn_reading.specs.Reading.{ReadsItems}
use Rattle.conn_reading.specs.Readings.{ReadsEntry}
use Rattle.conn_reading.specs.Seats.{Seat, Context, make_entry, entry_without}
use Rattle.conn_reading.specs.declared.deed.Deed.{Deed}
use Rattle.conn_reading.specs.declared.deed.Deed.TheVariants.{Close}
use Rattle.conn_reading.proofs.Appends.{HasRead, reads_acts}
use Rattle.conn_reading.proofs.InPlace
use Rattle.conn_reading.proofs.InPlace.{only, only_same, only_other, opened_in_place, refused_in_place}
use Rattle.conn_reading.proofs.Opening.{setup_looks}
use Rattle.conn_report.specs.declared.entry.Entry.{Entry}
use Rattle.conn_report.specs.declared.entry.Reply.TheVariants as replies
use Rattle.conn_script.specs.declared.command.BlockKind.{BlockKind}
use Rattle.conn_script.specs.declared.command.Customizer.{Customizer}
use Rattle.conn_script.specs.declared.command.Customizer.TheVariants as customizers
use Rattle.conn_script.specs.declared.request.Request.TheVariants.{Get}
use Rattle.conn_script.specs.declared.command.Word.TheVariants as words
use Rattle.conn_server.specs.Connected.{Connected, IsNew, NotOpened, aimed, takes_back, first_returned, sent_by}
use Rattle.conn_server.specs.Ordered.{planned}
use Rattle.conn_server.specs.declared.connector.ConnectRefusal.TheVariants.{Refused}
use Rattle.conn_session.specs.Customizing.{AnswersIf}
use Rattle.conn_session.specs.Known.{Has, Everywhere, IsKnown, progress, with_more}
use Rattle.conn_session.specs.Transfers.{gives_slot, in_front, adds_out, fills_places}
use Rattle.conn_session.specs.Plays.{PlaysOpening, KeepsSlotEmpty, ready_context, ready_entry, with_place}
use Rattle.conn_session.specs.Responses.{IsConnectors, IsRefused, IsServerError, IsServers, IsUnopened, ShowsError, seat_of, state_told, unserved_entry}
use Rattle.conn_session.specs.Steps.{Steps, IsLater, KeepsAll, IsCausedIn, AreBlocksCaused, fault_of}
use Rattle.conn_session.specs.Worlds.{Pool, World, Invariant, of_number, refusals, context_of, seats_of}
use Rattle.conn_session.proofs.Aims.{aims}
use Rattle.conn_session.proofs.Counts.{blocks_later}
use Rattle.conn_session.proofs.Fronts.{ReadsFront, asked_keeps, if_answers, if_later, if_number, if_reads, if_refused}
use Rattle.conn_session.proofs.Growing.{grows_nothing, everywhere-opened, everywhere-opened_back, everywhere-left_empty, known_opened, known_same}
use Rattle.conn_session.proofs.Honest.{new_log, state_of_log, sent_of_log}
use Rattle.conn_session.proofs.Moving.{opened_back, opened_front, left_empty, places_filled, place_filled}
use Rattle.conn_session.proofs.Runs.{keeps-trans}
use Rattle.conn_session.proofs.Served.{IsConnectorsIf, IsServersIf, Readies, ReadsGet, first-last}
use Rattle.conn_session.proofs.Shown.{seats-last}
use Rattle.conn_session.proofs.Totals

-- where the reading stands, by what changes
abbrev stands : World → Context → ℕ → List PlanLine → Progress
stands w context attempts plan = record { context = context; attempts = attempts; plan = plan; armed = armed_of plan; queries = w.pool.queries; dialect = w.pool.dialect; url = w.pool.url; policy = w.pool.policy }

same_stand : (w : World) (c g : Context) (a b : ℕ) (p q : List PlanLine) → c ≡ g → a ≡ b → p ≡ q → stands w c a p ≡ stands w g b q
same_stand w c g a b p q s t u = cc (s, t, u)

-- ---- why a setup is refused

-- what follows a text ends with an answer of which this holds, whether that was refused or not
module _ (a : Done) (P : Type 0) where
  abbrev Follow : (Reply → Status → Process Done) → Type 0
  Follow next = (r : Option Refusal) (s : Status) (sent : List Sent) → Follows (next (reply_of r) s) sent a → P

  run_follows : (d : Dialect) (text : List ℕ) (s : Status) (next : Reply → Status → Process Done) (sent : List Sent) → Follow next → Follows (run_text d text s next) sent a → P
  run_follows d text s next [] k h = absurd h
  run_follows d text s next (i ∷ is) k h = k i.heard.refusal (retold d i.heard.refusal i.heard.told s) is h.1

  ready_follows : (d : Dialect) (text : List ℕ) (r : Option Refusal) (s : Status) (next : Reply → Status → Process Done) (sent : List Sent) → Follow next → Follows (run_ready d text r s next) sent a → P
  ready_follows d text None s next sent k h = run_follows d text s next sent k h
  ready_follows d text (Some r) s next sent k h = k (Some r) s sent h

  execute_follows : (d : Dialect) (text : List ℕ) (s : Status) (next : Reply → Status → Process Done) (sent : List Sent) → Follow next → Follows (execute_text d text s next) sent a → P
  execute_follows Pg text s next sent k h = run_follows Pg text s next sent k h
  execute_follows Mysql text s next [] k h = absurd h
  execute_follows Mysql text s next (i ∷ is) k h = ready_follows Mysql text i.heard.refusal (retold Mysql i.heard.refusal i.heard.told s) next is k h.1
  execute_follows Sqlite text s next [] k h = absurd h
  execute_follows Sqlite text s next (i ∷ is) k h = ready_follows Sqlite text i.heard.refusal (retold Sqlite i.heard.refusal i.heard.told s) next is k h.1

-- a text of it was refused by the server
texts_error : (d : Dialect) (texts : List (List ℕ)) (s : Status) (sent : List Sent) (a : Done) (e : Error) → a.reply ≡ Err e → Follows (execute_texts d texts s) sent a → IsServerError e
texts_error d [] s [] a e is h = absurd (cc (ap (λ (x : Done). x.reply) h, is))
texts_error d [] s (i ∷ js) a e is h = absurd h
texts_error d (text ∷ texts) s sent a e is h =
    execute_follows a (IsServerError e) d text s (λ r s1. unless_refused r s1 (execute_texts d texts s1)) sent (λ r s1 rest g. rest_error r s1 rest (texts_error d texts s1 rest a e is) g) h
  where
    rest_error : (r : Option Refusal) (s1 : Status) (rest : List Sent) → (Follows (execute_texts d texts s1) rest a → IsServerError e) → Follows (unless_refused (reply_of r) s1 (execute_texts d texts s1)) rest a → IsServerError e
    rest_error None s1 rest k g = k g
    rest_error (Some r) s1 [] k g = (let same : Err (DatabaseError r.kind r.code) ≡ Err e = sym (ap (λ (x : Done). x.reply) g) ∙ is in let kind : DatabaseError r.kind r.code ≡ e = cc same in subst IsServerError kind tt)
    rest_error (Some r) s1 (i ∷ js) k g = absurd g

set_up_error : (d : Dialect) (s : Status) (sent : List Sent) (a : Done) (e : Error) → Follows (setup_process d s) sent a → a.reply ≡ Err e → IsServerError e
set_up_error d s sent a e h is = texts_error d (setup_texts d) s sent a e is h

-- ---- no server was opened

module _ (honest : Bool) (line : ℕ) (w : World) (holds : Invariant (in_front None w)) where
  abbrev old : World
  old = in_front None w

  abbrev rest : List (Option Seat)
  rest = seats_of w.pool.slots

  -- the slot is at the back
  module _ (k : Connected) (opened : k.opened ≡ w.connector.opened) (returned : k.returned ≡ w.connector.returned) (room : k.room ≡ w.connector.room) (plan : k.armed ≡ w.connector.armed)
      (later : w.connector.failures ≤ k.failures) where
    abbrev new : World
    new = record { pool = gives_slot None w.pool; connector = k }

    context_is : context_of new ≡ record (context_of w) { slots = rest ++ None ∷ [] }
    context_is =
        ap (λ (s : List (Option Seat)). record (context_of w) { slots = s; opened = k.opened }) (seats-last w.pool.slots None)
        ∙ ap (λ (n : ℕ). record (context_of w) { slots = rest ++ None ∷ []; opened = n }) opened

    counts : IsLater old new
    counts = record {
      later = later;
      refusals_later = λ n. omega (arith, Totals.sum-last (refusals n) w.pool.slots None, Totals.sum-first (refusals n) w.pool.slots None, ap (λ (ss : List Seen). sum_by (refusals n) ss) returned);
    }

    known : (logs : ServerLogs) → IsKnown logs old → IsKnown logs new
    known logs k0 = record {
      servers = subst (λ (p : List PlanLine). Everywhere (Has w.pool.dialect p logs) new) (sym plan) (everywhere-left_empty (Has w.pool.dialect w.connector.armed logs) w k returned k0.servers);
      fresh = λ n l. k0.fresh n (omega (arith, opened, l));
    }

    keeps : (k.targets ≡ w.connector.targets) ⊎ ((target : Target) × (target_in w.pool.dialect w.pool.url ≡ Ok target) × (k.targets ≡ aimed target w.connector.targets)) → KeepsAll old new
    keeps targets = record {
      holds = left_empty w k opened returned room holds;
      counts = counts;
      opening = record { dialect = refl; url = refl; size = refl; queries = refl; policy = refl; plan = plan; aims = at targets };
    }
      where
        at : (k.targets ≡ w.connector.targets) ⊎ ((target : Target) × (target_in w.pool.dialect w.pool.url ≡ Ok target) × (k.targets ≡ aimed target w.connector.targets))
            → AreAt w.pool.dialect w.pool.url w.connector.targets → AreAt w.pool.dialect w.pool.url k.targets
        at (inl same) h = subst (AreAt w.pool.dialect w.pool.url) (sym same) h
        at (inr t) h = aims w.pool.dialect w.pool.url t.0 w.connector.targets k.targets t.1 t.2 h

    -- an entry of the pool's error, and what is read for it
    module _ (error : ConnectionError) (entry : Entry) (entry_is : entry ≡ entry_without line words.Get None (replies.Pool (pooling.ConnectionError error))) where
      abbrev wanted : Entry
      wanted = entry_without line words.Get None (replies.Pool (pooling.ConnectionError error))

      shown : KeepsSlotEmpty line error (context_of w) entry (context_of new)
      shown = record { entry_is = entry_is; context_is = context_is }

      taken_is : (logs : ServerLogs) (attempts : ℕ) → attempts ≡ k.attempts → taken wanted (stands w (record (context_of w) { slots = rest ++ None ∷ [] }) attempts w.connector.armed) logs ≡ taken entry (progress new) logs
      taken_is logs attempts same =
          ap (λ (p : Progress). taken wanted p logs) (same_stand w (record (context_of w) { slots = rest ++ None ∷ [] }) (context_of new) attempts k.attempts w.connector.armed k.armed (sym context_is) same (sym plan))
          ∙ ap (λ (e : Entry). taken e (progress new) logs) (sym entry_is)

      caused : (IsServers (pooling.ConnectionError error) → ⊥) → (IsConnectors (pooling.ConnectionError error) → Rose w.connector.failures k.failures) → AreBlocksCaused old → IsCausedIn old new entry × AreBlocksCaused new
      caused refused unopened b =
          let reply : entry.reply ≡ replies.Pool (pooling.ConnectionError error) = ap (λ (e : Entry). e.reply) entry_is in (
            record { refused = λ h. absurd (refused (subst IsRefused reply h)); unopened = λ h. unopened (subst IsUnopened reply h) },
            blocks_later old new refl counts b,
          )

  -- the URL is at fault
  pub get_fault : (fault : ConnectionError) (entry : Entry) → url_fault w.pool.dialect w.pool.url ≡ Some fault → (IsServers (pooling.ConnectionError fault) → ⊥) → (IsConnectors (pooling.ConnectionError fault) → ⊥) → entry ≡ entry_without line words.Get None (replies.Pool (pooling.ConnectionError fault))
      → Steps honest line Get old (record w { pool = gives_slot None w.pool }) (Ok entry)
  get_fault fault entry faulty refused unopened entry_is =
      let k = w.connector in
      record {
        keeps = keeps k refl refl refl refl (omega arith) (inl refl);
        plays_entry = subst (λ (o : Option ConnectionError). PlaysOpening o w.pool.policy.customizer line (context_of w) entry (context_of (record { pool = gives_slot None w.pool; connector = k }))) (sym faulty) (shown k refl refl refl refl (omega arith) fault entry entry_is);
        caused = caused k refl refl refl refl (omega arith) fault entry entry_is refused (λ h. absurd (unopened h));
        grows = λ _. grows_nothing (λ p logs. reads p logs line Get) old (record { pool = gives_slot None w.pool; connector = k }) entry (known k refl refl refl refl (omega arith))
            (λ logs. ap (reads_opening (progress w) logs line) faulty ∙ ap (λ (t : Taken). Some t) (taken_is k refl refl refl refl (omega arith) fault entry entry_is logs k.attempts refl));
      }

  -- the connector refused
  pub get_refused : (k : Connected) (target : Target) (code : ℤ) (entry : Entry) → target_in w.pool.dialect w.pool.url ≡ Ok target → NotOpened honest target w.connector k (Refused code)
      → entry ≡ entry_without line words.Get None (replies.Pool (pooling.ConnectionError (BadConnection code))) → Steps honest line Get old (record { pool = gives_slot None w.pool; connector = k }) (Ok entry)
  get_refused k target code entry is refused entry_is =
      let opened : k.opened ≡ w.connector.opened = ap (λ (c : Connected). c.opened) refused.0 in
      let returned : k.returned ≡ w.connector.returned = ap (λ (c : Connected). c.returned) refused.0 in
      let room : k.room ≡ w.connector.room = ap (λ (c : Connected). c.room) refused.0 in
      let plan : k.armed ≡ w.connector.armed = ap (λ (c : Connected). c.armed) refused.0 in
      let faultless : url_fault w.pool.dialect w.pool.url ≡ None = ap result_err is in
      record {
        keeps = keeps k opened returned room plan refused.4 (inr (target, is, ap (λ (c : Connected). c.targets) refused.0));
        plays_entry = subst (λ (o : Option ConnectionError). PlaysOpening o w.pool.policy.customizer line (context_of w) entry (context_of (record { pool = gives_slot None w.pool; connector = k }))) (sym faultless) (inr (inr (code, shown k opened returned room plan refused.4 (BadConnection code) entry entry_is)));
        caused = caused k opened returned room plan refused.4 (BadConnection code) entry entry_is (λ h. h) (λ _. refused.1);
        grows = λ h. grows_nothing (λ p logs. reads p logs line Get) old (record { pool = gives_slot None w.pool; connector = k }) entry (known k opened returned room plan refused.4)
            (λ logs. ap (reads_opening (progress w) logs line) faultless ∙ ap (reads_attempt (progress w) logs line) (refused.3 h)
            ∙ ap (λ (t : Taken). Some t) (taken_is k opened returned room plan refused.4 (BadConnection code) entry entry_is logs (min (w.connector.attempts + 1) (2 ^ 64 - 1)) (sym (refused.2 h))));
      }

  -- memory was wanting
  pub get_wants : (k : Connected) (e : AllocError) → k ≡ w.connector → Steps honest line Get old (record { pool = gives_slot None w.pool; connector = k }) (Err e)
  get_wants k e same =
      subst (λ (c : Connected). Steps honest line Get old (record { pool = gives_slot None w.pool; connector = c }) (Err e)) (sym same)
      (record { keeps = keeps w.connector refl refl refl refl (omega arith) (inl refl); plays_entry = tt; caused = λ _. tt; grows = λ _. tt })

-- ---- a server was opened

module _ (honest tells : Bool) (honest_tells : honest ≡ true → tells ≡ true) (line : ℕ) (w : World) (holds : Invariant (in_front None w)) (left : Connected) (first : Seen) (o : OpensAt honest tells w.pool.dialect w.pool.url w.connector left first) where
  abbrev before : World
  before = in_front None w

  abbrev n : ℕ
  n = w.connector.opened

  abbrev slots : List (Option Seat)
  slots = seats_of w.pool.slots

  is_new : IsNew w.pool.dialect n first
  is_new = o.opens.is_new

  pub opened : left.opened ≡ n + 1
  opened = ap (λ (c : Connected). c.opened) o.opens.keeps

  returned : left.returned ≡ w.connector.returned
  returned = ap (λ (c : Connected). c.returned) o.opens.keeps

  room : left.room ≡ w.connector.room + 1
  room = ap (λ (c : Connected). c.room) o.opens.keeps

  plan : left.armed ≡ w.connector.armed
  plan = ap (λ (c : Connected). c.armed) o.opens.keeps

  failures : left.failures ≡ w.connector.failures
  failures = ap (λ (c : Connected). c.failures) o.opens.keeps

  faultless : url_fault w.pool.dialect w.pool.url ≡ None
  faultless = ap result_err o.aims

  at : AreAt w.pool.dialect w.pool.url w.connector.targets → AreAt w.pool.dialect w.pool.url left.targets
  at = aims w.pool.dialect w.pool.url o.target w.connector.targets left.targets o.aims (ap (λ (c : Connected). c.targets) o.opens.keeps)

  -- ---- its connection is in hand, and its number has a place

  abbrev pub opened_now : World
  opened_now = record { pool = adds_out None w.pool; connector = left }

  context_opened : context_of opened_now ≡ with_place (context_of w)
  context_opened =
      ap (λ (out : List (Option Seat)). record (context_of w) { out = out; opened = left.opened }) (seats-last w.pool.out None)
      ∙ ap (λ (m : ℕ). record (context_of w) { out = seats_of w.pool.out ++ None ∷ []; opened = m }) opened

  module _ (v : View) (same : v.seen.number ≡ first.number) where
    numbered : v.seen.number ≡ n
    numbered = same ∙ is_new.number_is

    pub keeps_opened : KeepsAll before (in_front (Some v) opened_now)
    keeps_opened = record {
      holds = opened_front w left v numbered opened returned room holds;
      counts = record {
        later = omega (arith, failures);
        refusals_later = λ m. omega (
          arith,
          Totals.sum-last (refusals m) w.pool.out None,
          Totals.sum-first (refusals m) w.pool.slots None,
          Totals.sum-first (refusals m) w.pool.slots (Some v),
          ap (λ (ss : List Seen). sum_by (refusals m) ss) returned,
        );
      };
      opening = record { dialect = refl; url = refl; size = refl; queries = refl; policy = refl; plan = plan; aims = at };
    }

  -- ---- it is back

  module _ (s : Seen) (same : s.number ≡ first.number) (later : first.failures ≤ s.failures) where
    abbrev back_now : World
    back_now = record { pool = adds_out None (gives_slot None w.pool); connector = takes_back s left }

    number_back : s.number ≡ n
    number_back = same ∙ is_new.number_is

    counts_back : IsLater before back_now
    counts_back = record {
      later = omega (arith, failures);
      refusals_later = λ m. omega (
        arith,
        Totals.sum-last (refusals m) w.pool.out None,
        Totals.sum-last (refusals m) w.pool.slots None,
        Totals.sum-first (refusals m) w.pool.slots None,
        Totals.sum-last_seen (refusals m) left.returned s,
        ap (λ (ss : List Seen). sum_by (refusals m) ss) returned,
      );
    }

    keeps_back : KeepsAll before back_now
    keeps_back = record { holds = opened_back w left s number_back opened returned room holds; counts = counts_back; opening = record { dialect = refl; url = refl; size = refl; queries = refl; policy = refl; plan = plan; aims = at } }

    context_back : context_of back_now ≡ record (with_place (context_of w)) { slots = slots ++ None ∷ [] }
    context_back =
        ap (λ (ss : List (Option Seat)). record (context_of w) { slots = ss; out = seats_of (w.pool.out ++ None ∷ []); opened = left.opened }) (seats-last w.pool.slots None)
        ∙ ap (λ (out : List (Option Seat)). record (context_of w) { slots = slots ++ None ∷ []; out = out; opened = left.opened }) (seats-last w.pool.out None)
        ∙ ap (λ (m : ℕ). record (context_of w) { slots = slots ++ None ∷ []; out = seats_of w.pool.out ++ None ∷ []; opened = m }) opened

    -- for want of memory it was asked nothing
    pub get_lacks : (e : AllocError) → Steps honest line Get before back_now (Err e)
    get_lacks e = record { keeps = keeps_back; plays_entry = tt; caused = λ _. tt; grows = λ _. tt }

-- ---- and was set up, or refused that

module _ (honest tells : Bool) (honest_tells : honest ≡ true → tells ≡ true) (line : ℕ) (w : World) (holds : Invariant (in_front None w)) (left : Connected) (last : Seen) (a : Done) (s : SetsUp honest tells w.pool.dialect w.pool.url w.connector left last a)
    (cache : Known) (empty : cache ≡ nothing_known) where
  abbrev numbers : last.number ≡ s.first.number
  numbers = s.set_up.acts.same.number

  last_number : last.number ≡ w.connector.opened
  last_number = numbers ∙ s.opened.opens.is_new.number_is

  abbrev seat : Seat
  seat = record { number = last.number; status = a.status; mark = last.sent; state = state_told last; cache = cache }

  -- its log grew by what its setup asked, which is read
  module _ (h : honest ≡ true) (logs : ServerLogs) (known : IsKnown logs (in_front None w)) where
    abbrev d : Dialect
    d = w.pool.dialect

    abbrev m : ℕ
    m = w.connector.opened

    abbrev ReadsFirst : Type 0
    ReadsFirst = HasRead false s.first.dialect s.first.armed (Idle []) (setup_process s.first.dialect no_depth) a [] last.log

    r : ReadsFirst
    r = reads_acts (setup_process s.first.dialect no_depth) s.first last a [] (Idle []) (setup_looks s.first.dialect no_depth) (new_log d m s.first (s.honest (honest_tells h)).0 s.opened.opens.is_new) refl
        (subst (λ (b : Bool). Acts b (setup_process s.first.dialect no_depth) s.first last a) (honest_tells h) s.set_up.acts)

    state_is : state_told last ≡ r.state
    state_is = (let same : Some (state_told last) ≡ Some r.state = sym (state_of_log last r.more (s.honest (honest_tells h)).1 r.is_log) ∙ ap (λ (x : Dialect). state_of x r.more) s.set_up.acts.same.dialect ∙ r.lawful in cc same)

    read_so : ReadsItems d (armed_of w.connector.armed) (Idle []) (setup_process d no_depth) r.more a (state_told last)
    read_so =
        subst (λ (x : Dialect). ReadsItems x (armed_of w.connector.armed) (Idle []) (setup_process x no_depth) r.more a (state_told last)) s.opened.opens.is_new.dialect_is
        (subst (λ (armed : List Armed). ReadsItems s.first.dialect armed (Idle []) (setup_process s.first.dialect no_depth) r.more a (state_told last)) (s.opened.opens.armed h)
        (subst (λ (x : State). ReadsItems s.first.dialect s.first.armed (Idle []) (setup_process s.first.dialect no_depth) r.more a x) (sym state_is) r.reads))

    mark_is : last.sent ≡ length r.more
    mark_is = sent_of_log last r.more (s.honest (honest_tells h)).1 r.is_log

    set_up : InPlace.SetsUp (progress (in_front None w)) (seats_of w.pool.slots) seat r.more a.reply
    set_up = record {
      slots = refl;
      faultless = ap result_err s.opened.aims;
      due = s.opened.opens.due h;
      reads = read_so;
      anew = r.anew refl;
      number = last_number;
      mark = mark_is;
      cache = empty;
    }

    abbrev grown : ServerLogs
    grown = with_more logs (only m r.more)

    last_has : Has d w.connector.armed grown last
    last_has = record {
      honest = (s.honest (honest_tells h)).1;
      dialect_is = s.set_up.acts.same.dialect ∙ s.opened.opens.is_new.dialect_is;
      armed_is = s.set_up.acts.same.armed ∙ s.opened.opens.armed h;
      log_is = r.is_log ∙ ap (λ (l : List Item). Some l) (sym (ap grown last_number ∙ ap (λ (l : List Item). l ++ only m r.more m) (known.fresh m (omega arith)) ∙ only_same m r.more));
      orders = λ item. ap (λ (o : ℕ → Option Order). o item) s.set_up.acts.same.orders ∙ s.opened.opens.orders h item ∙ ap (λ (k : ℕ). planned w.connector.armed k item) (sym last_number);
    }

    others_have : Everywhere (Has d w.connector.armed grown) (in_front None w)
    others_have = known_opened logs r.more (in_front None w) holds known

    nothing_past : (k : ℕ) → m + 1 ≤ k → grown k ≡ []
    nothing_past k l = ap (λ (t : List Item). logs k ++ t) (only_other m k r.more (λ e. absurd (omega (arith, e, l)))) ∙ append-nil (logs k) ∙ known.fresh k (omega (arith, l))

-- where the reading stands once the server was opened
opened_stands : (honest tells : Bool) (honest_tells : honest ≡ true → tells ≡ true) (line : ℕ) (w : World) (holds : Invariant (in_front None w)) (left : Connected) (first : Seen) (o : OpensAt honest tells w.pool.dialect w.pool.url w.connector left first) → honest ≡ true
    → with_opened (progress w) ≡ progress (opened_now honest tells honest_tells line w holds left first o)
opened_stands honest tells honest_tells line w holds left first o h =
    same_stand w (with_place (context_of w)) (context_of (opened_now honest tells honest_tells line w holds left first o)) (min (w.connector.attempts + 1) (2 ^ 64 - 1)) left.attempts w.connector.armed left.armed
    (sym (context_opened honest tells honest_tells line w holds left first o)) (sym (o.opens.counts h)) (sym (plan honest tells honest_tells line w holds left first o))

only-append : (n k : ℕ) (xs ys : List Item) → only n (xs ++ ys) k ≡ only n xs k ++ only n ys k
only-append n k xs ys = by_case (k == n)
  where
    by_case : (b : Bool) → cond b (xs ++ ys) [] ≡ cond b xs [] ++ cond b ys []
    by_case true = refl
    by_case false = refl

-- the connection was asked what new ones are
module _ (honest tells : Bool) (honest_tells : honest ≡ true → tells ≡ true) (line : ℕ) (w : World) (holds : Invariant (in_front None w)) (left : Connected) (v u : View) (s : SetsUp honest tells w.pool.dialect w.pool.url w.connector left v.seen (done (Ok tt) v.status)) (empty : v.cache ≡ nothing_known)
    (answer : Reply) (a : AnswersIf tells (customizer_deed w.pool.policy.customizer) v u answer) (memory : answer ≢ Err OutOfMemory) where
  abbrev deed : Option Deed
  deed = customizer_deed w.pool.policy.customizer

  abbrev with_server : World
  with_server = opened_now honest tells honest_tells line w holds left s.first s.opened

  abbrev refusal : Option PoolError
  refusal = get_refusal true (seat_of u) (reply_as answer)

  abbrev same_number : v.seen.number ≡ s.first.number
  same_number = s.set_up.acts.same.number

  in_hand : KeepsAll (in_front None w) (in_front (Some v) with_server)
  in_hand = keeps_opened honest tells honest_tells line w holds left s.first s.opened v same_number

  number_is : v.seen.number ≡ w.connector.opened
  number_is = numbered honest tells honest_tells line w holds left s.first s.opened v same_number

  -- a customizer closes no block
  customizes_apart : (z : Customizer) (kind : BlockKind) (x : Reply) → customizer_deed z ≡ Some (Close kind x) → ⊥
  customizes_apart customizers.Nop kind x e = absurd (cc)
  customizes_apart customizers.Test kind x e = absurd (cc)
  customizes_apart customizers.Begin kind x e = absurd (cc)

  left_not_refused : (b : Bool) → IsServersIf (if b then Some (pooling.LeftOpen u.seen.number) else None) → ⊥
  left_not_refused true h = h
  left_not_refused false h = h

  refused : (x : Reply) → AnswersIf tells deed v u x → IsServersIf (get_refusal true (seat_of u) (reply_as x)) → 0 < u.seen.failures
  refused (Ok t) b h = absurd (left_not_refused (is_broken u.status) h)
  refused (Err e) b h = if_refused tells deed v u e b h (customizes_apart w.pool.policy.customizer)

  left_not_connectors : (b : Bool) → IsConnectorsIf (if b then Some (pooling.LeftOpen u.seen.number) else None) → ⊥
  left_not_connectors true h = h
  left_not_connectors false h = h

  not_connectors : (x : Reply) → IsConnectorsIf (get_refusal true (seat_of u) (reply_as x)) → ⊥
  not_connectors (Ok t) h = left_not_connectors (is_broken u.status) h
  not_connectors (Err e) h = h

  -- its log grew by what its setup asked and then the customizer, which is read
  module _ (h : honest ≡ true) (logs : ServerLogs) (known : IsKnown logs (in_front None w)) where
    abbrev n1 : ℕ
    n1 = w.connector.opened

    abbrev first_items : List Item
    first_items = (r honest tells honest_tells line w holds left v.seen (done (Ok tt) v.status) s v.cache empty h logs known).more

    abbrev set_up_logs : ServerLogs
    set_up_logs = with_more logs (only n1 first_items)

    set_up_known : IsKnown set_up_logs (in_front (Some v) with_server)
    set_up_known = record {
      servers = subst (λ (p : List PlanLine). Everywhere (Has w.pool.dialect p set_up_logs) (in_front (Some v) with_server)) (sym (plan honest tells honest_tells line w holds left s.first s.opened))
          (everywhere-opened (Has w.pool.dialect w.connector.armed set_up_logs) w left v (returned honest tells honest_tells line w holds left s.first s.opened)
          (last_has honest tells honest_tells line w holds left v.seen (done (Ok tt) v.status) s v.cache empty h logs known)
          (others_have honest tells honest_tells line w holds left v.seen (done (Ok tt) v.status) s v.cache empty h logs known));
      fresh = λ k l. nothing_past honest tells honest_tells line w holds left v.seen (done (Ok tt) v.status) s v.cache empty h logs known k (omega (arith, opened honest tells honest_tells line w holds left s.first s.opened, l));
    }

    more : ReadsFront set_up_logs with_server line true deed v u refusal
    more = if_reads tells line true with_server v u in_hand.holds set_up_logs set_up_known (honest_tells h) deed answer a memory

    abbrev all_items : ServerLogs
    all_items = only n1 (first_items ++ more.items)

    logs_same : (n : ℕ) → with_more logs all_items n ≡ with_more set_up_logs (only v.seen.number more.items) n
    logs_same n =
        ap (λ (l : List Item). logs n ++ l) (only-append n1 n first_items more.items ∙ ap (λ (k : ℕ). only n1 first_items n ++ only k more.items n) (sym number_is))
        ∙ sym (append_assoc (logs n) (only n1 first_items n) (only v.seen.number more.items n))

    all_known : IsKnown (with_more logs all_items) (in_front (Some u) with_server)
    all_known = known_same (with_more set_up_logs (only v.seen.number more.items)) (with_more logs all_items) (in_front (Some u) with_server) logs_same more.known

    -- the customizer's part is read where the setup was
    abbrev end : Taken
    end = readied (progress with_server) (λ k. []) line (seat_of u) refusal

    opened_reads : ReadsEntry (λ p logs. reads_opened p logs line (seat_of v) (Ok tt)) (with_opened (progress w)) (only n1 more.items) end.entry end.progress
    opened_reads =
        subst (λ (p : Progress). ReadsEntry (λ p logs. reads_opened p logs line (seat_of v) (Ok tt)) p (only n1 more.items) end.entry end.progress) (sym (opened_stands honest tells honest_tells line w holds left s.first s.opened h))
        (subst (λ (k : ℕ). ReadsEntry (λ p logs. reads_opened p logs line (seat_of v) (Ok tt)) (progress with_server) (only k more.items) end.entry end.progress) number_is
        (record { anew = more.reads.anew; whatever_follows = more.reads.whatever_follows }))

    get_reads : ReadsGet line (in_front None w) all_items with_server u refusal
    get_reads =
        opened_in_place (progress (in_front None w)) line (seats_of w.pool.slots) (seat_of v) first_items more.items (Ok tt) end.entry end.progress
        (set_up honest tells honest_tells line w holds left v.seen (done (Ok tt) v.status) s v.cache empty h logs known) opened_reads

  fills : (mark : Option ℕ) (entry : Entry) (new : Context) → entry ≡ ready_entry line (seat_of u) mark refusal → new ≡ ready_context (context_of with_server) (seat_of u) refusal → PlaysOpening (fault_of w) w.pool.policy.customizer line (context_of w) entry new
  fills mark entry new entry_is context_is =
      subst (λ (f : Option ConnectionError). PlaysOpening f w.pool.policy.customizer line (context_of w) entry new) (sym (faultless honest tells honest_tells line w holds left s.first s.opened))
      (inl (record {
        seat = seat_of v;
        numbered = number_is;
        ready = record {
          after = seat_of u;
          reply = reply_as answer;
          mark = mark;
          numbered = if_number tells deed v u answer a;
          answers = if_answers tells deed v u answer with_server a memory;
          entry_is = entry_is;
          context_is = context_is ∙ ap (λ (c : Context). ready_context c (seat_of u) refusal) (context_opened honest tells honest_tells line w holds left s.first s.opened);
        };
      }))

  pub ready_new : Readies honest line (in_front None w) with_server u refusal
  ready_new = record {
    keeps = keeps-trans (in_front None w) (in_front (Some v) with_server) (in_front (Some u) with_server) in_hand (asked_keeps with_server v u (if_number tells deed v u answer a) (if_later tells deed v u answer a) in_hand.holds);
    blocks = refl;
    refused = refused answer a;
    unopened = not_connectors answer;
    reads = λ h logs known. (all_items h logs known, all_known h logs known, get_reads h logs known);
    plays = fills;
  }

-- a text of the setup was refused, and its server is back
module _ (honest tells : Bool) (honest_tells : honest ≡ true → tells ≡ true) (line : ℕ) (w : World) (holds : Invariant (in_front None w)) (left : Connected) (last : Seen) (e : Error) (status : Status) (s : SetsUp honest tells w.pool.dialect w.pool.url w.connector left last (done (Err e) status)) where
  abbrev start : World
  start = in_front None w

  abbrev n0 : ℕ
  n0 = w.connector.opened

  abbrev error_of : ℕ → PoolError
  error_of k = pooling.ConnectionError (CouldntSetupConfiguration e k)

  abbrev unset_now : World
  unset_now = record { pool = adds_out None (gives_slot None w.pool); connector = takes_back last left }

  number_was : last.number ≡ n0
  number_was = number_back honest tells honest_tells line w holds left s.first s.opened last s.set_up.acts.same.number s.set_up.cause.later

  context_unset : context_of unset_now ≡ record (with_place (context_of w)) { slots = seats_of w.pool.slots ++ None ∷ [] }
  context_unset = context_back honest tells honest_tells line w holds left s.first s.opened last s.set_up.acts.same.number s.set_up.cause.later

  plan_was : left.armed ≡ w.connector.armed
  plan_was = plan honest tells honest_tells line w holds left s.first s.opened

  returned_was : left.returned ≡ w.connector.returned
  returned_was = returned honest tells honest_tells line w holds left s.first s.opened

  nothing_back : sum_by (of_number n0) left.returned ≡ 0
  nothing_back = omega (arith, holds.accounts.none n0 (omega arith), ap (λ (ss : List Seen). sum_by (of_number n0) ss) returned_was)

  back_is : first_returned last.number (left.returned ++ last ∷ []) ≡ Some last
  back_is = first-last last.number left.returned last (ap (λ (k : ℕ). sum_by (of_number k) left.returned) number_was ∙ nothing_back) refl

  module _ (h : honest ≡ true) (logs : ServerLogs) (known : IsKnown logs start) where
    abbrev asked : List Item
    asked = (r honest tells honest_tells line w holds left last (done (Err e) status) s nothing_known refl h logs known).more

    abbrev seat_was : Seat
    seat_was = seat honest tells honest_tells line w holds left last (done (Err e) status) s nothing_known refl

    unset_known : IsKnown (with_more logs (only n0 asked)) unset_now
    unset_known = record {
      servers = subst (λ (p : List PlanLine). Everywhere (Has w.pool.dialect p (with_more logs (only n0 asked))) unset_now) (sym plan_was)
          (everywhere-opened_back (Has w.pool.dialect w.connector.armed (with_more logs (only n0 asked))) w left last returned_was
          (last_has honest tells honest_tells line w holds left last (done (Err e) status) s nothing_known refl h logs known)
          (others_have honest tells honest_tells line w holds left last (done (Err e) status) s nothing_known refl h logs known));
      fresh = λ k l. nothing_past honest tells honest_tells line w holds left last (done (Err e) status) s nothing_known refl h logs known k (omega (arith, opened honest tells honest_tells line w holds left s.first s.opened, l));
    }

    abbrev end_was : Taken
    end_was = readied (with_opened (progress w)) (λ k. []) line seat_was (Some (error_of last.number))

    unset_read : ReadsEntry (λ p logs. reads p logs line Get) (progress start) (only n0 (asked ++ [])) end_was.entry end_was.progress
    unset_read =
        opened_in_place (progress start) line (seats_of w.pool.slots) seat_was asked [] (Err e) end_was.entry end_was.progress
        (set_up honest tells honest_tells line w holds left last (done (Err e) status) s nothing_known refl h logs known)
        (subst (λ (k : ℕ). ReadsEntry (λ p logs. reads_opened p logs line seat_was (Err e)) (with_opened (progress w)) (only k []) end_was.entry end_was.progress) number_was (refused_in_place (with_opened (progress w)) line seat_was e))

    progress_was : end_was.progress ≡ progress unset_now
    progress_was =
        same_stand w (record (with_place (context_of w)) { slots = seats_of w.pool.slots ++ None ∷ [] }) (context_of unset_now) (min (w.connector.attempts + 1) (2 ^ 64 - 1)) left.attempts w.connector.armed left.armed
        (sym context_unset) (sym (s.opened.opens.counts h)) (sym plan_was)

    mark_was : sent_by last.number (left.returned ++ last ∷ []) ≡ Some last.sent
    mark_was =
        let x = r honest tells honest_tells line w holds left last (done (Err e) status) s nothing_known refl h logs known in
        ap (option_and_then (λ (t : Seen). option_map length t.log)) back_is ∙ ap (option_map length) x.is_log
        ∙ ap (λ (k : ℕ). Some k) (sym (mark_is honest tells honest_tells line w holds left last (done (Err e) status) s nothing_known refl h logs known))

  pub get_unset : (entry : Entry) → entry ≡ make_entry line words.Get (Some last.number) (replies.Pool (error_of last.number)) None (sent_by last.number (left.returned ++ last ∷ [])) → Steps honest line Get start unset_now (Ok entry)
  get_unset entry entry_is =
      let mark : Option ℕ = sent_by last.number (left.returned ++ last ∷ []) in
      let reply : entry.reply ≡ replies.Pool (error_of last.number) = ap (λ (x : Entry). x.reply) entry_is in
      let keeps : KeepsAll start unset_now = keeps_back honest tells honest_tells line w holds left s.first s.opened last s.set_up.acts.same.number s.set_up.cause.later in
      record {
        keeps = keeps;
        plays_entry = subst (λ (f : Option ConnectionError). PlaysOpening f w.pool.policy.customizer line (context_of w) entry (context_of unset_now)) (sym (faultless honest tells honest_tells line w holds left s.first s.opened))
            (inr (inl (record {
              error = e;
              mark = mark;
              refused = set_up_error s.first.dialect no_depth s.set_up.acts.sent (done (Err e) status) e s.set_up.acts.follows refl;
              entry_is = entry_is ∙ ap (λ (k : ℕ). make_entry line words.Get (Some k) (replies.Pool (error_of k)) None mark) number_was;
              context_is = context_unset;
            })));
        caused = λ b. (
          record {
            refused = λ h. (
              last.number,
              ap (λ (x : Entry). x.connection) entry_is,
              omega (arith, s.set_up.cause.refused (subst IsRefused reply h), s.opened.opens.is_new.failures_is, Totals.refusals_here last.number last refl, Totals.sum-last_seen (refusals last.number) left.returned last),
            );
            unopened = λ h. absurd (subst IsUnopened reply h);
          },
          blocks_later start unset_now refl keeps.counts b,
        );
        grows = λ h logs known. (
          only n0 (asked h logs known),
          unset_known h logs known,
          subst (λ (x : Entry). ReadsEntry (λ p logs. reads p logs line Get) (progress start) (only n0 (asked h logs known)) x (progress unset_now)) (sym (entry_is ∙ ap (λ (k : Option ℕ). make_entry line words.Get (Some last.number) (replies.Pool (error_of last.number)) None k) (mark_was h logs known)))
              (subst (λ (p : Progress). ReadsEntry (λ p logs. reads p logs line Get) (progress start) (only n0 (asked h logs known)) (end_was h logs known).entry p) (progress_was h logs known)
              (subst (λ (l : List Item). ReadsEntry (λ p logs. reads p logs line Get) (progress start) (only n0 l) (end_was h logs known).entry (end_was h logs known).progress) (append-nil (asked h logs known)) (unset_read h logs known))),
        );
      }

-- ---- no connection was made, for whatever reason

module _ (honest tells : Bool) (honest_tells : honest ≡ true → tells ≡ true) (line : ℕ) (w : World) (holds : Invariant (in_front None w)) where
  -- the session and its connector then
  abbrev failed : Connected → World
  failed k = record { pool = fills_places k.opened (gives_slot None w.pool); connector = k }

  abbrev StepsTo : World → Result Entry AllocError → Type 0
  StepsTo new result = Steps honest line Get (in_front None w) new result

  -- where no server was opened there is no place to fill
  none_opened : (k : Connected) (result : Result Entry AllocError) → k.opened ≡ w.connector.opened → StepsTo (record { pool = gives_slot None w.pool; connector = k }) result → StepsTo (failed k) result
  none_opened k result same steps = subst (λ (p : Pool). StepsTo (record { pool = p; connector = k }) result) (sym (places_filled (gives_slot None w.pool) k.opened (holds.places ∙ sym same))) steps

  -- a server that was opened and is back has its place
  one_opened : (k left : Connected) (last : Seen) (result : Result Entry AllocError) → k ≡ takes_back last left → left.opened ≡ w.connector.opened + 1 → StepsTo (record { pool = adds_out None (gives_slot None w.pool); connector = takes_back last left }) result → StepsTo (failed k) result
  one_opened k left last result back one steps =
      subst (λ (c : Connected). StepsTo (failed c) result) (sym back)
      (subst (λ (p : Pool). StepsTo (record { pool = p; connector = takes_back last left }) result) (sym (place_filled (gives_slot None w.pool) left.opened (omega (arith, holds.places, one)))) steps)

  -- the URL is at fault
  faulty : (k : Connected) (fault : ConnectionError) (entry : Entry) → (IsServers (pooling.ConnectionError fault) → ⊥) → (IsConnectors (pooling.ConnectionError fault) → ⊥) → entry ≡ entry_without line words.Get None (replies.Pool (pooling.ConnectionError fault))
      → (target_in w.pool.dialect w.pool.url ≡ Err fault) × (k ≡ w.connector) → StepsTo (failed k) (Ok entry)
  faulty k fault entry refused unopened shows h =
      none_opened k (Ok entry) (ap (λ (c : Connected). c.opened) h.1)
      (subst (λ (c : Connected). StepsTo (record { pool = gives_slot None w.pool; connector = c }) (Ok entry)) (sym h.1)
      (get_fault honest line w holds fault entry (ap result_err h.0) refused unopened shows))

  -- an entry that is there
  with_shown : (e : PoolError) (k : Connected) (result : Result Entry AllocError) → ((entry : Entry) → entry ≡ unserved_entry line e k.returned → StepsTo (failed k) (Ok entry)) → result ≡ Ok (unserved_entry line e k.returned) → StepsTo (failed k) result
  with_shown e k result steps is = subst (StepsTo (failed k)) (sym is) (steps (unserved_entry line e k.returned) refl)

  pub get_failed : (k : Connected) (error : ConnectionError) (result : Result Entry AllocError) → FailsToEstablish honest tells w.pool.dialect w.pool.url w.connector error k → ShowsError line (opening_error error) k.returned result → StepsTo (failed k) result
  get_failed k (InvalidCString place) result h shows = with_shown (pooling.ConnectionError (InvalidCString place)) k result (λ entry is. faulty k (InvalidCString place) entry (λ r. r) (λ r. r) is h) shows
  get_failed k (InvalidConnectionUrl fault) result h shows = with_shown (pooling.ConnectionError (InvalidConnectionUrl fault)) k result (λ entry is. faulty k (InvalidConnectionUrl fault) entry (λ r. r) (λ r. r) is h) shows
  get_failed k (BadConnection code) result h shows =
      with_shown (pooling.ConnectionError (BadConnection code)) k result (λ entry is. none_opened k (Ok entry) (ap (λ (c : Connected). c.opened) h.refuses.0) (get_refused honest line w holds k h.target code entry h.aims h.refuses is)) shows
  get_failed k (CouldntSetupConfiguration e number) result h shows =
      with_shown (pooling.ConnectionError (CouldntSetupConfiguration e number)) k result (λ entry is.
      one_opened k h.left h.last (Ok entry) h.back (opened honest tells honest_tells line w holds h.left h.tried.first h.tried.opened)
      (get_unset honest tells honest_tells line w holds h.left h.last e h.status h.tried entry
      (is ∙ ap (λ (n : ℕ). unserved_entry line (pooling.ConnectionError (CouldntSetupConfiguration e n)) k.returned) h.number_is
      ∙ ap (λ (c : Connected). unserved_entry line (pooling.ConnectionError (CouldntSetupConfiguration e h.last.number)) c.returned) h.back))) shows
  get_failed k no_memory (Ok entry) h shows = absurd (cc (shows))
  get_failed k no_memory (Err e) (inl same) shows = none_opened k (Err e) (ap (λ (c : Connected). c.opened) same) (get_wants honest line w holds k e same)
  get_failed k no_memory (Err e) (inr h) shows =
      one_opened k h.left h.last (Err e) h.back (opened honest tells honest_tells line w holds h.left h.first h.opened)
      (get_lacks honest tells honest_tells line w holds h.left h.first h.opened h.last (ap (λ (t : Seen). t.number) h.untouched) (omega (arith, ap (λ (t : Seen). t.failures) h.untouched)) e)
