-- A deed on a connection is one call more in its history.
use Rattle.std.proofs.Common.{◌≡◌, ℕ, zero, suc, ◌+◌, List, [], ◌∷◌, ◌++◌, length, length-append, Option, Some, None, refl, sym, ap, subst, ◌∙◌, arith, inl, inr}
use Rattle.std.specs.Prelude.{slice_set}
use Rattle.std.specs.Option.{option_map}
use Rattle.conn_model.specs.States.{State}
use Rattle.conn_model.specs.declared.item.Dialect.{Dialect}
use Rattle.conn_manager.specs.Manages.{Done}
use Rattle.conn_manager.specs.Statuses.{Status}
use Rattle.conn_report.specs.declared.entry.Reply.{Reply}
use Rattle.conn_report.specs.declared.entry.Reply.TheVariants as replies
use Rattle.conn_script.specs.Requests.{verb_word}
use Rattle.conn_script.specs.declared.command.Word.{Word}
use Rattle.conn_script.specs.declared.request.Verb.{Verb}
use Rattle.conn_script.specs.declared.query.Declared.{Declared}
use Rattle.conn_model.specs.Caches.{Register}
use Rattle.conn_reading.specs.Answered.{ServerLogs, Progress, Taken, taken, with_left, seat_after, taken_on, not_out, reads_on, skip_entry, reads_deed, with_blocks}
use Rattle.conn_reading.specs.Asking.{Outcome, Policy, process_of}
use Rattle.conn_reading.specs.Blocks.{block_on, blocks_after, deed_of}
use Rattle.conn_reading.specs.Histories.{Operation, Step, step_items, StartsSetUp}
use Rattle.conn_reading.specs.Owning.{names_of}
use Rattle.conn_reading.specs.Reading.{Read, read}
use Rattle.conn_reading.specs.Seats.{Seat, make_entry, entry_without, at_number}
use Rattle.conn_reading.specs.Sessions.{SendsPlain, IsClean}
use Rattle.conn_reading.specs.declared.blocks.Block.{Block}
use Rattle.conn_reading.specs.declared.deed.Deed.{Deed}
use Rattle.conn_reading.proofs.ByNumber.{at_within}
use Rattle.conn_reading.proofs.Deeds.{operation_of, IsPlainDeed, deed_plain, verb_clean, DeedReads, deed_reads}
use Rattle.conn_reading.proofs.EachSeat.{held}
use Rattle.conn_reading.proofs.KeysKept.{HoldsKey, holds_read}
use Rattle.conn_reading.proofs.Rising.{RisesTo}
use Rattle.conn_reading.proofs.SessionCalls.{CallReads, FoldsAs, with_call, call_registers, call_seat, call_ends, call_says}
use Rattle.conn_reading.proofs.SessionKept.{IsOf, Tracks, SeatOf, IsAtNumber, Keeps, ProgressKeeps, EndsWith, IsAt, Deeds, deed_on, EntrySays, IfShown, DeedKeepsKeys, KeepsKeys, TakenKeeps, says_nothing, says_still}
use Rattle.conn_reading.proofs.SessionPlaces.{IsAway, Lifted, taken_out, handed_keeps, moved_keeps}
use Rattle.conn_reading.proofs.Tracks.{set_up-last}

-- ---- a deed on a connection that is as its history leaves it

-- what was read for it
pub seat_reads : (d : Dialect) (policy : Policy) (left : ServerLogs) (tracks : Tracks) (p : Progress) (deed : Deed) (seat : Seat) (r : Read Outcome) → IsOf d policy p → SeatOf tracks seat
    → read p.dialect p.armed seat.state (process_of p.dialect p.queries seat.status seat.cache deed) (left seat.number) ≡ Some r
    → DeedReads d (tracks seat.number).state (tracks seat.number).status p.queries seat.cache deed (left seat.number) r
seat_reads d policy left tracks p deed seat r is_of here is =
    let reads : DeedReads p.dialect seat.state seat.status p.queries seat.cache deed (left seat.number) r = deed_reads p.dialect p.armed seat.state seat.status p.queries seat.cache deed (left seat.number) r is in
    subst (λ (x : Dialect). DeedReads x (tracks seat.number).state (tracks seat.number).status p.queries seat.cache deed (left seat.number) r) is_of.dialect
    (subst (λ (x : State). DeedReads p.dialect x (tracks seat.number).status p.queries seat.cache deed (left seat.number) r) (sym here.state)
    (subst (λ (x : Status). DeedReads p.dialect seat.state x p.queries seat.cache deed (left seat.number) r) (sym here.status) reads))

module _ (d : Dialect) (logs left : ServerLogs) (tracks : Tracks) (queries : List Declared) (deed : Deed) (seat : Seat) (r : Read Outcome) (slots : List Seat) (out : List (Option Seat)) (opened : ℕ)
    (plain : IsPlainDeed queries (Some deed)) (h : Keeps d logs left tracks slots out opened) (is : SeatOf tracks seat) (away : IsAway slots out opened seat.number)
    (reads : DeedReads d (tracks seat.number).state (tracks seat.number).status queries seat.cache deed (left seat.number) r) where
  abbrev m : ℕ
  m = seat.number

  abbrev operation : Operation
  operation = operation_of queries seat.cache deed

  -- what the call read
  abbrev done_read : Read Done
  done_read = record { value = reads.answer; state = r.state; left = r.left }

  abbrev after : Seat
  after = seat_after seat (length (left m)) r

  abbrev call : CallReads d (left m) (tracks m) operation done_read
  call = record {
    is = plain seat.cache;
    used = reads.used;
    all = reads.all;
    each = reads.each;
    register = r.value.cache.register;
    names = subst (λ (x : Register). RisesTo x.counter (names_of reads.used) r.value.cache.register.counter) (sym is.register) reads.owns.names;
  }

  abbrev pub deed_tracks : Tracks
  deed_tracks = with_call d logs left tracks m operation done_read h.tracked call

  count_read : after.mark ≡ length (step_items (tracks m).steps) + length reads.used
  count_read = omega (arith, is.mark, ap length reads.all, length-append reads.used r.left)

  -- what was done, after those that stand in its history
  abbrev last : Step
  last = record { operation = operation; items = reads.used; answer = reads.answer }

  sets_up : StartsSetUp ((tracks m).steps ++ last ∷ [])
  sets_up = set_up-last (tracks m).steps last is.sets_up

  pub deed_seat : SeatOf deed_tracks after
  deed_seat = call_seat d logs left tracks m operation done_read h.tracked call after refl reads.status refl refl count_read sets_up

  pub deed_moves : Keeps d logs (with_left left m r.left) deed_tracks slots out opened
  deed_moves = moved_keeps d logs left tracks slots out opened m operation done_read h away call

  -- the deed keeps keys
  keeps_keys : DeedKeepsKeys (Some deed) (tracks m).register r.value.cache.register
  keeps_keys key keeps holds =
      let here : HoldsKey key seat.cache.register = subst (HoldsKey key) is.register holds in
      subst (HoldsKey key) (sym reads.owns.register) (holds_read key d queries deed reads.used seat.cache.register keeps here)

  pub deed_registers : (deeds : Deeds) (line : ℕ) (word : Word) (reply : Reply) (status : Option Status) → deed_on deeds (tracks m) ≡ Some deed → (k : ℕ)
      → KeepsKeys (make_entry line word (Some m) reply status (Some after.mark)) (deed_on deeds (tracks k)) k (tracks k).register (deed_tracks k).register
  deed_registers deeds line word reply status this k = elim (call_registers d logs left tracks m operation done_read h.tracked call (DeedKeepsKeys (Some deed)) keeps_keys k) [
    | inl stays ↦ inl stays
    | inr moves ↦ inr (ap (λ (j : ℕ). Some j) moves.0, refl, subst (λ (o : Option Deed). DeedKeepsKeys o (tracks k).register (deed_tracks k).register) (sym (subst (λ (j : ℕ). deed_on deeds (tracks j) ≡ Some deed) moves.0 this)) moves.1)
  ]

  -- the entry, where it shows the deed's reply, or why the connection was closed
  pub deed_says : (policy : Policy) (blocks : List Block) (deeds : Deeds) (line : ℕ) (word : Word) (reply : Reply) (status : Option Status) → deed_on deeds (tracks m) ≡ Some deed → FoldsAs (Some deed) reply operation reads.answer → IfShown after.status status
      → IsClean word reply status → EntrySays d logs policy tracks deed_tracks opened blocks deeds (make_entry line word (Some m) reply status (Some after.mark))
  deed_says policy blocks deeds line word reply status this f shown clean =
      call_says d logs left tracks m operation done_read h.tracked call policy opened blocks deeds line word reply status after.mark away.low (at status shown) clean
      (subst (λ (o : Option Deed). FoldsAs o reply operation reads.answer) (sym this) f) count_read
    where
      at : (o : Option Status) → IfShown after.status o → IsAt d logs deed_tracks (Some m) o (Some after.mark)
      at None g = tt
      at (Some S) g = subst (λ (x : Status). EndsWith d (logs m) x after.mark (deed_tracks m)) (sym g) (call_ends d logs left tracks m operation done_read h.tracked call r.value.status after.mark reads.status count_read sets_up)

  pub own_reply : FoldsAs (Some deed) r.value.reply operation reads.answer
  own_reply = record { stack = reads.stack; live = reads.live }

-- ---- a command on a connection

slice_set_twice : {A : Type 0} (xs : List A) (n : ℕ) (x y : A) → slice_set (slice_set xs n x) n y ≡ slice_set xs n y
slice_set_twice [] n x y = refl
slice_set_twice (z ∷ xs) zero x y = refl
slice_set_twice {A = A} (z ∷ xs) (suc n) x y = ap (λ (l : List A). z ∷ l) (slice_set_twice xs n x y)

module _ (d : Dialect) (logs left : ServerLogs) (policy : Policy) (tracks : Tracks) (p : Progress) (line n : ℕ) (word : Word) (clean : (reply : Reply) (status : Option Status) → IsClean word reply status) (is_of : IsOf d policy p) (h : ProgressKeeps d logs left tracks p) where
  abbrev Took : Option Deed → Taken → Type 0
  Took deed t = TakenKeeps d logs policy tracks p.context.opened (λ b. deed) p.context.blocks p.context.blocks t

  -- one that isn't out
  not_out_keeps : (deed : Option Deed) (reply : Reply) → Took deed (taken (entry_without line word (Some n) reply) p left)
  not_out_keeps deed reply = record {
    tracks = tracks;
    progress = h;
    is_of = is_of;
    grows = omega arith;
    open_blocks = refl;
    registers = λ k. inl refl;
    entry = says_nothing d logs policy tracks p.context.opened p.context.blocks (λ b. deed) line word (Some n) reply (clean reply None);
  }

  -- one that is out, and stays so
  module _ (deed : Deed) (seat : Seat) (r : Read Outcome) (plain : IsPlainDeed p.queries (Some deed)) (there : at_number n p.context.out ≡ Some seat)
      (is : read p.dialect p.armed seat.state (process_of p.dialect p.queries seat.status seat.cache deed) (left seat.number) ≡ Some r) where
    here : IsAtNumber tracks n seat
    here = h.in_out n seat there

    reads : DeedReads d (tracks seat.number).state (tracks seat.number).status p.queries seat.cache deed (left seat.number) r
    reads = seat_reads d policy left tracks p deed seat r is_of here.1 is

    abbrev away_out : List (Option Seat)
    away_out = slice_set p.context.out n None

    lift : Lifted d logs left tracks (held p.context.slots) away_out p.context.opened seat
    lift = taken_out d logs left tracks (held p.context.slots) p.context.out p.context.opened n seat there h

    abbrev moved : Tracks
    moved = deed_tracks d logs left tracks p.queries deed seat r (held p.context.slots) away_out p.context.opened plain lift.keeps lift.is lift.away reads

    abbrev after_seat : Seat
    after_seat = seat_after seat (length (left seat.number)) r

    out_keeps : Keeps d logs (with_left left seat.number r.left) moved (held p.context.slots) (slice_set p.context.out n (Some after_seat)) p.context.opened
    out_keeps =
        let keeps = handed_keeps d logs (with_left left seat.number r.left) moved (held p.context.slots) away_out p.context.opened after_seat
        (deed_moves d logs left tracks p.queries deed seat r (held p.context.slots) away_out p.context.opened plain lift.keeps lift.is lift.away reads)
        (deed_seat d logs left tracks p.queries deed seat r (held p.context.slots) away_out p.context.opened plain lift.keeps lift.is lift.away reads) lift.away in
        subst (λ (l : List (Option Seat)). Keeps d logs (with_left left seat.number r.left) moved (held p.context.slots) l p.context.opened)
        (ap (λ (k : ℕ). slice_set away_out k (Some after_seat)) here.0 ∙ slice_set_twice p.context.out n None (Some after_seat)) keeps

    on_keeps : Took (Some deed) (taken_on p left line word n seat r)
    on_keeps = record {
      tracks = moved;
      progress = out_keeps;
      is_of = is_of;
      grows = omega arith;
      open_blocks = refl;
      registers = deed_registers d logs left tracks p.queries deed seat r (held p.context.slots) away_out p.context.opened plain lift.keeps lift.is lift.away reads (λ b. Some deed) line word r.value.reply (Some r.value.status) refl;
      entry = deed_says d logs left tracks p.queries deed seat r (held p.context.slots) away_out p.context.opened plain lift.keeps lift.is lift.away reads policy p.context.blocks (λ b. Some deed) line word r.value.reply (Some r.value.status) refl
          (own_reply d logs left tracks p.queries deed seat r (held p.context.slots) away_out p.context.opened plain lift.keeps lift.is lift.away reads) refl (clean r.value.reply (Some r.value.status));
    }

  -- it is read
  on_keeps_all : (deed : Deed) (t : Taken) (o : Option Seat) → IsPlainDeed p.queries (Some deed) → at_number n p.context.out ≡ o → reads_on p left line word deed n o ≡ Some t → Took (Some deed) t
  on_keeps_all deed t None plain there is =
      let e : not_out p left line word n ≡ t = cc in
      subst (Took (Some deed)) e (not_out_keeps (Some deed) replies.NotOut)
  on_keeps_all deed t (Some seat) plain there is =
      by_read (read p.dialect p.armed seat.state (process_of p.dialect p.queries seat.status seat.cache deed) (left seat.number)) refl is
    where
      by_read : (o : Option (Read Outcome)) → read p.dialect p.armed seat.state (process_of p.dialect p.queries seat.status seat.cache deed) (left seat.number) ≡ o → option_map (taken_on p left line word n seat) o ≡ Some t → Took (Some deed) t
      by_read None e i = absurd (cc)
      by_read (Some r) e i =
          let same : taken_on p left line word n seat r ≡ t = cc in
          subst (Took (Some deed)) same (on_keeps deed seat r plain there e)

  -- it is skipped
  skip_keeps : (o : Option Seat) → at_number n p.context.out ≡ o → Took None (taken (skip_entry line word n o) p left)
  skip_keeps None there = not_out_keeps None replies.Skipped
  skip_keeps (Some seat) there =
      let here : IsAtNumber tracks n seat = h.in_out n seat there in
      record {
        tracks = tracks;
        progress = h;
        is_of = is_of;
        grows = omega arith;
        open_blocks = refl;
        registers = λ k. inl refl;
        entry = says_still d logs left policy tracks p.context.opened p.context.blocks (λ b. None) line word replies.Skipped (Some seat.status) seat h.tracked here.1 refl refl (clean replies.Skipped (Some seat.status)) (omega (arith, here.0, h.places, at_within n p.context.out seat there));
      }

  deed_keeps : (deed : Option Deed) (t : Taken) (o : Option Seat) → IsPlainDeed p.queries deed → at_number n p.context.out ≡ o → reads_deed p left line word deed n o ≡ Some t → Took deed t
  deed_keeps None t o plain there is =
      let e : taken (skip_entry line word n o) p left ≡ t = cc in
      subst (Took None) e (skip_keeps o there)
  deed_keeps (Some deed) t o plain there is = on_keeps_all deed t o plain there is

-- a command on a connection, whose reply tells the blocks
pub verb_keeps : (d : Dialect) (logs left : ServerLogs) (policy : Policy) (tracks : Tracks) (p : Progress) (line n : ℕ) (verb : Verb) (t : Taken) → SendsPlain verb → IsOf d policy p → ProgressKeeps d logs left tracks p
    → (let deed : Option Deed = deed_of (block_on n p.context.blocks) verb in option_map (with_blocks n verb) (reads_deed p left line (verb_word verb) deed n (at_number n p.context.out)) ≡ Some t
    → TakenKeeps d logs policy tracks p.context.opened (λ b. deed) p.context.blocks (blocks_after n verb t.entry.reply p.context.blocks) t)
verb_keeps d logs left policy tracks p line n verb t plain is_of h is =
    by_read (reads_deed p left line (verb_word verb) deed n (at_number n p.context.out)) is
    (λ u e. deed_keeps d logs left policy tracks p line n (verb_word verb) (verb_clean verb) is_of h deed u (at_number n p.context.out) (deed_plain p.queries is_of.plain (block_on n p.context.blocks) verb plain) refl e) refl
  where
    deed : Option Deed
    deed = deed_of (block_on n p.context.blocks) verb

    After : Taken → Type 0
    After x = TakenKeeps d logs policy tracks p.context.opened (λ b. deed) p.context.blocks (blocks_after n verb x.entry.reply p.context.blocks) x

    by_read : (o : Option Taken) → option_map (with_blocks n verb) o ≡ Some t
        → ((u : Taken) → reads_deed p left line (verb_word verb) deed n (at_number n p.context.out) ≡ Some u → TakenKeeps d logs policy tracks p.context.opened (λ b. deed) p.context.blocks p.context.blocks u)
        → reads_deed p left line (verb_word verb) deed n (at_number n p.context.out) ≡ o → After t
    by_read None i f e = absurd (cc)
    by_read (Some u) i f e =
        let same : with_blocks n verb u ≡ t = cc in
        let k = f u e in
        subst After same (record {
          tracks = k.tracks;
          progress = k.progress;
          is_of = k.is_of;
          grows = k.grows;
          open_blocks = ap (blocks_after n verb u.entry.reply) k.open_blocks;
          registers = k.registers;
          entry = k.entry;
        })
