-- An attempt to open a connection: its setup is the first call in its history, and what it is asked then the second.
use Rattle.std.proofs.Common.{◌≡◌, ℕ, ℤ, ◌+◌, ◌-◌, ◌≤◌, Bool, true, false, List, [], ◌∷◌, ◌++◌, length, length-append, Option, Some, None, Ok, Err, refl, sym, ap, subst, ◌∙◌, arith, inl, inr}
use Rattle.std.specs.Option.{option_map}
use Rattle.std.proofs.lemmas.Option.{option_and_then_some}
use Rattle.conn_result.specs.declared.error.ConnectionError.{ConnectionError}
use Rattle.conn_result.specs.declared.error.ConnectionError.TheVariants.{BadConnection, CouldntSetupConfiguration}
use Rattle.conn_result.specs.declared.pool.Error.{Error as PoolError}
use Rattle.conn_result.specs.declared.pool.Error.TheVariants as pooling
use Rattle.conn_model.specs.States.{Idle}
use Rattle.conn_model.specs.declared.item.Dialect.{Dialect}
use Rattle.conn_manager.specs.Manages.{Done, Reply as Answer}
use Rattle.conn_manager.specs.Setups.{setup_process}
use Rattle.conn_manager.specs.Statuses.{no_depth}
use Rattle.conn_report.specs.declared.entry.Reply.TheVariants as replies
use Rattle.conn_script.specs.declared.command.Customizer.{Customizer}
use Rattle.conn_script.specs.declared.command.Customizer.TheVariants as customizers
use Rattle.conn_script.specs.declared.command.Word.TheVariants as words
use Rattle.conn_model.specs.Caches.{Register, nothing_known}
use Rattle.conn_reading.specs.Answered.{ServerLogs, Progress, Taken, new_seat, readied, reads_attempt, reads_opened, reads_opening, reads_ready, reads_set_up, refusal_at, get_refusal, seat_after, taken_ready, unopened, attempted, with_left, with_opened}
use Rattle.conn_reading.specs.Asking.{Outcome, Policy, customizer_deed, get_deed, process_of}
use Rattle.conn_reading.specs.Folds.{AllKeepLive, alone}
use Rattle.conn_reading.specs.Histories.{Setup, operation_process, Step, step_items, StartsSetUp}
use Rattle.conn_reading.specs.Owning.{names_of}
use Rattle.conn_reading.specs.Reading.{Read, read, Reads}
use Rattle.conn_reading.specs.Seats.{Seat}
use Rattle.conn_reading.specs.Sessions.{between}
use Rattle.conn_reading.specs.declared.deed.Deed.{Deed}
use Rattle.conn_reading.proofs.Deeds.{customizer_plain}
use Rattle.conn_reading.proofs.EachSeat.{held}
use Rattle.conn_reading.proofs.ItemsRead.{ReadsFront, reads_front}
use Rattle.conn_reading.proofs.Opening.{set_up_is, setup_unnamed}
use Rattle.conn_reading.proofs.Rising.{RisesTo}
use Rattle.conn_reading.proofs.SessionCalls.{CallReads, FoldsAs, with_call, track_same, call_apart, call_registers, call_seat, call_says}
use Rattle.conn_reading.proofs.SessionKept.{DeedKeepsKeys, IsOf, Keeps, KeepsKeys, SeatOf, TakenKeeps, Tracks, deed_on, says_nothing}
use Rattle.conn_reading.proofs.SessionMore.{between_more, says_more, sends_still}
use Rattle.conn_reading.proofs.SessionPlaces.{IsAway, added_away, added_keeps, emptied_keeps, moved_keeps}
use Rattle.conn_reading.proofs.SessionReadies.{AsksWell, ready_keeps}
use Rattle.conn_reading.proofs.Tracks.{Track, folded, moved, no_track}

-- ---- the entry of a connection shows its number, and a mark past what it had

pub record IsShown (seat : Seat) (t : Taken) : Type 0 where
  pub connection : t.entry.connection ≡ Some seat.number
  pub count : ℕ
  pub mark : t.entry.mark ≡ Some count
  pub past : seat.mark ≤ count

readied_shown : (p : Progress) (logs : ServerLogs) (line : ℕ) (seat after : Seat) (e : Option PoolError) → after.number ≡ seat.number → seat.mark ≤ after.mark → IsShown seat (readied p logs line after e)
readied_shown p logs line seat after None same past = record { connection = ap (λ (k : ℕ). Some k) same; count = after.mark; mark = refl; past = past }
readied_shown p logs line seat after (Some e) same past = record { connection = ap (λ (k : ℕ). Some k) same; count = after.mark; mark = refl; past = past }

ready_shown : (p : Progress) (logs : ServerLogs) (line : ℕ) (fresh : Bool) (deed : Option Deed) (seat : Seat) (t : Taken) → reads_ready p logs line fresh deed seat ≡ Some t → IsShown seat t
ready_shown p logs line fresh None seat t is =
    let same : readied p logs line seat (get_refusal fresh seat replies.Ok) ≡ t = cc in
    subst (IsShown seat) same (readied_shown p logs line seat seat (get_refusal fresh seat replies.Ok) refl (omega arith))
ready_shown p logs line fresh (Some deed) seat t is = by_read (read p.dialect p.armed seat.state (process_of p.dialect p.queries seat.status seat.cache deed) (logs seat.number)) is
  where
    by_read : (o : Option (Read Outcome)) → option_map (taken_ready p logs line fresh seat) o ≡ Some t → IsShown seat t
    by_read None i = absurd (cc)
    by_read (Some r) i =
        let same : taken_ready p logs line fresh seat r ≡ t = cc in
        let after : Seat = seat_after seat (length (logs seat.number)) r in
        subst (IsShown seat) same (readied_shown p (with_left logs seat.number r.left) line seat after (get_refusal fresh after r.value.reply) refl (omega arith))

-- ---- a setup, whatever its entry is

-- it does nothing to the stack where the pool refuses for it
refused_folds : (deed : Option Deed) (e : ConnectionError) (a : Done) → FoldsAs deed (replies.Pool (pooling.ConnectionError e)) Setup a
refused_folds None e a = record { stack = λ k. sym (sends_still a.reply k); live = λ k l. tt }
refused_folds (Some deed) e a = record { stack = λ k. sym (sends_still a.reply k); live = λ k l. tt }

customizer_well : (z : Customizer) → AsksWell true (customizer_deed z)
customizer_well customizers.Nop = tt
customizer_well customizers.Test = tt
customizer_well customizers.Begin = tt

module _ (d : Dialect) (logs left : ServerLogs) (policy : Policy) (tracks : Tracks) (p : Progress) (line : ℕ) (is_of : IsOf d policy p) (h : Keeps d logs left tracks (held p.context.slots) p.context.out p.context.opened) (r : Read Done)
    (front : ReadsFront d (Idle []) (setup_process d no_depth) (left p.context.opened) r) where
  -- the number of the new server
  abbrev n : ℕ
  n = p.context.opened

  abbrev out : List (Option Seat)
  out = p.context.out ++ None ∷ []

  abbrev seat : Seat
  seat = new_seat n (length (left n) - length r.left) r

  abbrev rest : ServerLogs
  rest = with_left left n r.left

  first : tracks n ≡ no_track
  first = h.unopened n (omega arith)

  -- a setup gives no name
  unnamed : names_of front.used ≡ []
  unnamed = setup_unnamed d no_depth (Idle []) front.used r.value r.state front.each

  abbrev call : CallReads d (left n) (tracks n) Setup r
  call = record {
    is = set_up_is;
    used = front.used;
    all = front.all;
    each = subst (λ (t : Track). Reads d t.state (operation_process d t.status Setup) front.used r.value r.state) (sym first) front.each;
    register = nothing_known.register;
    names = subst (λ (t : Track). RisesTo t.register.counter (names_of front.used) 0) (sym first) (subst (λ (ns : List ℕ). RisesTo 0 ns 0) (sym unnamed) (omega arith));
  }

  abbrev one : Tracks
  one = with_call d logs left tracks n Setup r h.tracked call

  count_read : seat.mark ≡ length (step_items (tracks n).steps) + length front.used
  count_read = omega (arith, ap (λ (t : Track). length (step_items t.steps)) first, ap length front.all, length-append front.used r.left)

  abbrev setup : Step
  setup = record { operation = Setup; items = front.used; answer = r.value }

  sets_up : r.value.reply ≡ Ok tt → StartsSetUp ((tracks n).steps ++ setup ∷ [])
  sets_up ok = subst (λ (t : Track). StartsSetUp (t.steps ++ setup ∷ [])) (sym first) (refl, ok)

  seat_is : r.value.reply ≡ Ok tt → SeatOf one seat
  seat_is ok = call_seat d logs left tracks n Setup r h.tracked call seat refl refl refl refl count_read (sets_up ok)

  added : Keeps d logs left tracks (held p.context.slots) out (n + 1)
  added = added_keeps d logs left tracks (held p.context.slots) p.context.out n h

  away : IsAway (held p.context.slots) out (n + 1) n
  away = added_away d logs left tracks (held p.context.slots) p.context.out n h

  set_up_keeps : Keeps d logs rest one (held p.context.slots) out (n + 1)
  set_up_keeps = moved_keeps d logs left tracks (held p.context.slots) out (n + 1) n Setup r added away call

  -- no register changes, as the cache is a new one
  still : (k : ℕ) → (one k).register ≡ (tracks k).register
  still k = elim (call_registers d logs left tracks n Setup r h.tracked call (λ x y. y ≡ x) (sym (ap (λ (t : Track). t.register) first)) k) [
    | inl stays ↦ stays
    | inr moves ↦ moves.1
  ]

  abbrev Took : Taken → Type 0
  Took t = TakenKeeps d logs policy tracks n (get_deed policy) p.context.blocks p.context.blocks t

  -- the connection is closed for the error of its setup
  refused_took : (e : ConnectionError) → Took (readied (with_opened p) rest line seat (Some (pooling.ConnectionError e)))
  refused_took e = record {
    tracks = one;
    progress = emptied_keeps d logs rest one out (n + 1) p.context.slots set_up_keeps;
    is_of = is_of;
    grows = omega arith;
    open_blocks = refl;
    registers = λ k. inl (still k);
    entry = call_says d logs left tracks n Setup r h.tracked call policy (n + 1) p.context.blocks (get_deed policy) line words.Get (replies.Pool (pooling.ConnectionError e)) None seat.mark (omega arith) tt tt
        (refused_folds (deed_on (get_deed policy) (tracks n)) e r.value) count_read;
  }

  -- what is asked of it comes behind its setup
  one_is : one n ≡ moved no_track Setup front.used r nothing_known.register
  one_is = track_same tracks n (moved (tracks n) Setup front.used r nothing_known.register) ∙ ap (λ (t : Track). moved t Setup front.used r nothing_known.register) first

  all_read : logs n ≡ front.used ++ r.left
  all_read = (h.tracked n).all ∙ ap (λ (t : Track). step_items t.steps ++ left n) first ∙ front.all

  goes_on : (m : ℕ) → seat.mark ≤ m → between (logs n) (folded policy p.context.blocks no_track) m ≡ between (logs n) (folded policy p.context.blocks (one n)) m
  goes_on m past =
      let high : length front.used ≤ m = omega (arith, count_read, past) in
      between_more (logs n) front.used r.left policy p.context.blocks r nothing_known.register m all_read high ∙ ap (λ (t : Track). between (logs n) (folded policy p.context.blocks t) m) (sym one_is)

  live_one : AllKeepLive (one n).steps (alone [])
  live_one = subst (λ (t : Track). AllKeepLive t.steps (alone [])) (sym one_is) (tt, tt)

  abbrev deed : Option Deed
  deed = customizer_deed p.policy.customizer

  asks_deed : get_deed policy false ≡ deed
  asks_deed = ap (λ (x : Policy). customizer_deed x.customizer) (sym is_of.asked)

  asks_here : deed_on (get_deed policy) (tracks n) ≡ deed
  asks_here = ap (λ (t : Track). deed_on (get_deed policy) t) first ∙ asks_deed

  -- it keeps keys
  more_registers : (t : Taken) (after : Tracks) → IsShown seat t → ((k : ℕ) → KeepsKeys t.entry deed k (one k).register (after k).register) → (k : ℕ) → KeepsKeys t.entry (deed_on (get_deed policy) (tracks k)) k (tracks k).register (after k).register
  more_registers t after shown keeps k = elim (keeps k) [
    | inl stays ↦ inl (stays ∙ still k)
    | inr moves ↦ (let same : n ≡ k = cc (sym shown.connection ∙ moves.0) in
        let asked : deed_on (get_deed policy) (tracks k) ≡ deed = subst (λ (j : ℕ). deed_on (get_deed policy) (tracks j) ≡ deed) same asks_here in
        inr (moves.0, moves.1, subst (λ (o : Option Deed). DeedKeepsKeys o (tracks k).register (after k).register) (sym asked) (subst (λ (x : Register). DeedKeepsKeys deed x (after k).register) (still k) moves.2)))
  ]

  -- by the answer of the setup
  opened_took : (a : Answer) (t : Taken) → r.value.reply ≡ a → reads_opened (with_opened p) rest line seat a ≡ Some t → Took t
  opened_took (Err e) t refused is =
      let same : readied (with_opened p) rest line seat (Some (pooling.ConnectionError (CouldntSetupConfiguration e n))) ≡ t = cc in
      subst Took same (refused_took (CouldntSetupConfiguration e n))
  opened_took (Ok u) t ok is =
      let asked : TakenKeeps d logs policy one (n + 1) (λ b. deed) p.context.blocks p.context.blocks t =
      ready_keeps d logs rest policy one (with_opened p) line (λ b. deed) true seat is_of set_up_keeps (seat_is ok) away (λ kept. absurd (cc)) deed t (customizer_well p.policy.customizer) (customizer_plain p.queries is_of.plain p.policy.customizer) refl is in
      let shown : IsShown seat t = ready_shown (with_opened p) rest line true deed seat t is in
      record {
        tracks = asked.tracks;
        progress = asked.progress;
        is_of = asked.is_of;
        grows = omega (arith, asked.grows);
        open_blocks = asked.open_blocks;
        registers = more_registers t asked.tracks shown asked.registers;
        entry = says_more d logs policy tracks one asked.tracks t.progress.context.opened p.context.blocks (get_deed policy) deed t.entry n shown.count shown.connection shown.mark
            (λ k apart. call_apart d logs left tracks n Setup r h.tracked call k apart) first asks_deed (goes_on shown.count shown.past) live_one asked.entry;
      }

-- ---- an attempt

module _ (d : Dialect) (logs left : ServerLogs) (policy : Policy) (tracks : Tracks) (p : Progress) (line : ℕ) (is_of : IsOf d policy p) (h : Keeps d logs left tracks (held p.context.slots) p.context.out p.context.opened) where
  abbrev Opens : Taken → Type 0
  Opens t = TakenKeeps d logs policy tracks p.context.opened (get_deed policy) p.context.blocks p.context.blocks t

  unopened_keeps : (attempts : ℕ) (e : ConnectionError) → Opens (unopened (record p { attempts = attempts }) left line e)
  unopened_keeps attempts e = record {
    tracks = tracks;
    progress = emptied_keeps d logs left tracks p.context.out p.context.opened p.context.slots h;
    is_of = is_of;
    grows = omega arith;
    open_blocks = refl;
    registers = λ k. inl refl;
    entry = says_nothing d logs policy tracks p.context.opened p.context.blocks (get_deed policy) line words.Get None (replies.Pool (pooling.ConnectionError e)) tt;
  }

  attempt_keeps : (o : Option ℤ) (t : Taken) → reads_attempt p left line o ≡ Some t → Opens t
  attempt_keeps (Some code) t is =
      let same : unopened (attempted p) left line (BadConnection code) ≡ t = cc in
      subst Opens same (unopened_keeps (attempted p).attempts (BadConnection code))
  attempt_keeps None t is =
      option_and_then_some (reads_set_up p left line p.context.opened) (read p.dialect p.armed (Idle []) (setup_process p.dialect no_depth) (left p.context.opened)) t is (λ r e took.
      let front : ReadsFront d (Idle []) (setup_process d no_depth) (left p.context.opened) r =
      subst (λ (x : Dialect). ReadsFront x (Idle []) (setup_process x no_depth) (left p.context.opened) r) is_of.dialect (reads_front p.dialect p.armed (Idle []) (setup_process p.dialect no_depth) (left p.context.opened) r e) in
      opened_took d logs left policy tracks p line is_of h r front r.value.reply t refl took)

  -- or a URL that is at fault
  pub opening_keeps : (o : Option ConnectionError) (t : Taken) → reads_opening p left line o ≡ Some t → Opens t
  opening_keeps None t is = attempt_keeps (refusal_at p) t is
  opening_keeps (Some fault) t is =
      let same : unopened p left line fault ≡ t = cc in
      subst Opens same (unopened_keeps p.attempts fault)
