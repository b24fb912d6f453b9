-- A connection that `get` has, kept or new, is asked what is asked, and is handed out or closed.
use Rattle.std.proofs.Common.{◌≡◌, ℕ, Bool, true, false, ◌&&◌, if◌then◌else◌, List, length, Option, Some, None, Ok, Err, refl, sym, ap, subst, ◌∙◌, arith, inl, inr}
use Rattle.std.specs.Prelude.{◌⊎◌, ⊤}
use Rattle.std.specs.Option.{option_map}
use Rattle.conn_result.specs.declared.error.Error.{Error}
use Rattle.conn_result.specs.declared.pool.Error.{Error as PoolError}
use Rattle.conn_result.specs.declared.pool.Error.TheVariants as pooling
use Rattle.conn_model.specs.Caches.{Known}
use Rattle.conn_model.specs.Process.{Process, map_process}
use Rattle.conn_model.specs.States.{State}
use Rattle.conn_model.specs.declared.item.Dialect.{Dialect}
use Rattle.conn_model.specs.declared.item.Item.{Item}
use Rattle.conn_cache.specs.QueryProcesses.{ping_process}
use Rattle.conn_manager.specs.Manages.{Done, Reply as Answer, begin_process, begin_test_process}
use Rattle.conn_manager.specs.Statuses.{Status, is_broken}
use Rattle.conn_report.specs.declared.entry.Reply.{Reply}
use Rattle.conn_report.specs.declared.entry.Reply.TheVariants as replies
use Rattle.conn_script.specs.declared.command.Word.TheVariants as words
use Rattle.conn_script.specs.declared.query.Declared.{Declared}
use Rattle.conn_reading.specs.Answered.{ServerLogs, Progress, Taken, readied, reads_ready, get_refusal, seat_after, taken_ready, with_left}
use Rattle.conn_reading.specs.Asking.{Outcome, Policy, asked_as, process_of, reply_as, reply_made, told_as}
use Rattle.conn_reading.specs.Folds.{Kind, Stack, KeepsLive, kind_of}
use Rattle.conn_reading.specs.Reading.{Read, Reads, read}
use Rattle.conn_reading.specs.Seats.{Seat}
use Rattle.conn_reading.specs.Sessions.{after_kind, deed_kind}
use Rattle.conn_reading.specs.declared.deed.Deed.{Deed}
use Rattle.conn_reading.specs.declared.deed.Deed.TheVariants as deeds
use Rattle.conn_reading.proofs.Checked.{IsChecked, ping_checks}
use Rattle.conn_reading.proofs.Deeds.{DeedReads, IsPlainDeed, operation_of}
use Rattle.conn_reading.proofs.EachSeat.{held}
use Rattle.conn_reading.proofs.ItemsRead.{reads_front, reads_unmap}
use Rattle.conn_reading.proofs.SessionCalls.{FoldsAs}
use Rattle.conn_reading.proofs.SessionKept.{Deeds, IsOf, Keeps, SeatOf, TakenKeeps, Tracks, deed_on, says_still}
use Rattle.conn_reading.proofs.SessionMoves.{deed_moves, deed_registers, deed_says, deed_seat, deed_tracks, seat_reads}
use Rattle.conn_reading.proofs.SessionPlaces.{IsAway, emptied_keeps, handed_keeps}
use Rattle.conn_reading.proofs.Tracks.{set_up_begun}

-- ---- what `get` asks

-- it begins, or pings
abbrev pub IsGetDeed : Deed → Type 0
IsGetDeed deeds.Begin = ⊤
IsGetDeed deeds.TestBegin = ⊤
IsGetDeed deeds.Ping = ⊤
IsGetDeed deed = ⊥

-- a reply that is Ok or an error
abbrev IsPlainReply : Reply → Type 0
IsPlainReply r = (r ≡ replies.Ok) ⊎ ((e : Error) × (r ≡ replies.Error e))

plain_answer : (a : Answer) → IsPlainReply (reply_as a)
plain_answer (Ok u) = inl refl
plain_answer (Err e) = inr (e, refl)

told_plain : (d : Dialect) (s : State) (c : Known) (p : Process Done) (items : List Item) (o : Outcome) (end : State) → Reads d s (map_process (told_as c) p) items o end → IsPlainReply o.reply
told_plain d s c p items o end reads =
    let m = reads_unmap (told_as c) d s p items o end reads in
    subst IsPlainReply (sym (ap (λ (x : Outcome). x.reply) m.made)) (plain_answer m.value.reply)

ping_answers : (d : Dialect) (s : State) (S : Status) (queries : List Declared) (c : Known) (items : List Item) (o : Outcome) (end : State) → Reads d s (process_of d queries S c deeds.Ping) items o end → IsPlainReply o.reply
ping_answers d s S queries c items o end reads =
    let m = reads_unmap (asked_as (λ (u : Unit {0}). replies.Ok)) d s (ping_process d S c) items o end reads in
    subst IsPlainReply (sym (ap (λ (x : Outcome). x.reply) m.made)) (by_answer m.value.reply)
  where
    by_answer : (a : Answer) → IsPlainReply (reply_made (λ (u : Unit {0}). replies.Ok) a)
    by_answer (Ok u) = inl refl
    by_answer (Err e) = inr (e, refl)

module _ (d : Dialect) (s : State) (S : Status) (queries : List Declared) (c : Known) (items : List Item) (o : Outcome) (end : State) where
  get_reply : (deed : Deed) → IsGetDeed deed → Reads d s (process_of d queries S c deed) items o end → IsPlainReply o.reply
  get_reply (deeds.Batch text) asks reads = absurd asks
  get_reply deeds.Begin asks reads = told_plain d s c (begin_process d S) items o end reads
  get_reply (deeds.BeginBy form) asks reads = absurd asks
  get_reply deeds.Commit asks reads = absurd asks
  get_reply deeds.Rollback asks reads = absurd asks
  get_reply deeds.TestBegin asks reads = told_plain d s c (begin_test_process d S) items o end reads
  get_reply (deeds.Close kind answer) asks reads = absurd asks
  get_reply (deeds.Query call n) asks reads = absurd asks
  get_reply (deeds.CacheSize size) asks reads = absurd asks
  get_reply deeds.Ping asks reads = ping_answers d s S queries c items o end reads

-- it keeps no level
get_live : (queries : List Declared) (c : Known) (deed : Deed) (a : Answer) (k : Stack) → IsGetDeed deed → KeepsLive (kind_of (operation_of queries c deed)) a k
get_live queries c (deeds.Batch text) a k asks = absurd asks
get_live queries c deeds.Begin a k asks = tt
get_live queries c (deeds.BeginBy form) a k asks = absurd asks
get_live queries c deeds.Commit a k asks = absurd asks
get_live queries c deeds.Rollback a k asks = absurd asks
get_live queries c deeds.TestBegin a k asks = tt
get_live queries c (deeds.Close kind answer) a k asks = absurd asks
get_live queries c (deeds.Query call n) a k asks = absurd asks
get_live queries c (deeds.CacheSize size) a k asks = absurd asks
get_live queries c deeds.Ping a k asks = tt

-- ---- what the entry shows

-- the reply of the entry
abbrev shown_reply : Option PoolError → Reply
shown_reply None = replies.Ok
shown_reply (Some e) = replies.Pool e

-- its status
abbrev shown_status : Option PoolError → Seat → Option Status
shown_status None seat = Some seat.status
shown_status (Some e) seat = None

-- it does to the stack what the reply did
shows : (kind : Kind) (fresh : Bool) (seat : Seat) (r : Reply) (k : Stack) → IsPlainReply r → after_kind kind (shown_reply (get_refusal fresh seat r)) k ≡ after_kind kind r k
shows kind fresh seat r k (inl ok) = subst (λ (x : Reply). after_kind kind (shown_reply (get_refusal fresh seat x)) k ≡ after_kind kind x k) (sym ok) (by_case (fresh && is_broken seat.status))
  where
    by_case : (b : Bool) → after_kind kind (shown_reply (if b then Some (pooling.LeftOpen seat.number) else None)) k ≡ after_kind kind replies.Ok k
    by_case true = refl
    by_case false = refl
shows kind fresh seat r k (inr refused) = subst (λ (x : Reply). after_kind kind (shown_reply (get_refusal fresh seat x)) k ≡ after_kind kind x k) (sym refused.1) refl

-- one that is handed out is clean
none_broken : (b : Bool) (e : PoolError) → (let o : Option PoolError = if b then Some e else None in o ≡ None) → b ≡ false
none_broken true e is = absurd (cc)
none_broken false e is = refl

ready_clean : (fresh : Bool) (seat : Seat) (r : Reply) → IsPlainReply r → (fresh ≡ false → ((e : Error) × (r ≡ replies.Error e)) ⊎ (is_broken seat.status ≡ false)) → get_refusal fresh seat r ≡ None → is_broken seat.status ≡ false
ready_clean fresh seat r (inr refused) checked is =
    let e : get_refusal fresh seat (replies.Error refused.0) ≡ None = subst (λ (x : Reply). get_refusal fresh seat x ≡ None) refused.1 is in absurd (cc)
ready_clean true seat r (inl ok) checked is = none_broken (is_broken seat.status) (pooling.LeftOpen seat.number) (subst (λ (x : Reply). get_refusal true seat x ≡ None) ok is)
ready_clean false seat r (inl ok) checked is = elim (checked refl) [
  | inl refused ↦ (let e : replies.Ok ≡ replies.Error refused.0 = sym ok ∙ refused.1 in absurd (cc))
  | inr clean ↦ clean
]

-- ---- it is handed out or closed

module _ (d : Dialect) (logs left : ServerLogs) (policy : Policy) (tracks : Tracks) (p : Progress) (line : ℕ) (asks : Deeds) (fresh : Bool) (seat : Seat) (is_of : IsOf d policy p)
    (h : Keeps d logs left tracks (held p.context.slots) p.context.out p.context.opened) (is : SeatOf tracks seat) (away : IsAway (held p.context.slots) p.context.out p.context.opened seat.number) where
  abbrev Took : Taken → Type 0
  Took t = TakenKeeps d logs policy tracks p.context.opened asks p.context.blocks p.context.blocks t

  -- nothing is asked
  still_took : (e : Option PoolError) → asks true ≡ None → (e ≡ None → is_broken seat.status ≡ false) → Took (readied p left line seat e)
  still_took None none clean = record {
    tracks = tracks;
    progress = handed_keeps d logs left tracks (held p.context.slots) p.context.out p.context.opened seat h is away;
    is_of = is_of;
    grows = omega arith;
    open_blocks = refl;
    registers = λ k. inl refl;
    entry = says_still d logs left policy tracks p.context.opened p.context.blocks asks line words.Get replies.Ok (Some seat.status) seat h.tracked is none refl (clean refl) away.low;
  }
  still_took (Some e) none clean = record {
    tracks = tracks;
    progress = emptied_keeps d logs left tracks p.context.out p.context.opened p.context.slots h;
    is_of = is_of;
    grows = omega arith;
    open_blocks = refl;
    registers = λ k. inl refl;
    entry = says_still d logs left policy tracks p.context.opened p.context.blocks asks line words.Get (replies.Pool e) None seat h.tracked is none tt tt away.low;
  }

  -- it is asked
  module _ (deed : Deed) (r : Read Outcome) (gets : IsGetDeed deed) (plain : IsPlainDeed p.queries (Some deed)) (asked : asks true ≡ Some deed)
      (was_read : read p.dialect p.armed seat.state (process_of p.dialect p.queries seat.status seat.cache deed) (left seat.number) ≡ Some r) where
    reads : DeedReads d (tracks seat.number).state (tracks seat.number).status p.queries seat.cache deed (left seat.number) r
    reads = seat_reads d policy left tracks p deed seat r is_of is was_read

    abbrev moved : Tracks
    moved = deed_tracks d logs left tracks p.queries deed seat r (held p.context.slots) p.context.out p.context.opened plain h is away reads

    abbrev after : Seat
    after = seat_after seat (length (left seat.number)) r

    moved_all : Keeps d logs (with_left left seat.number r.left) moved (held p.context.slots) p.context.out p.context.opened
    moved_all = deed_moves d logs left tracks p.queries deed seat r (held p.context.slots) p.context.out p.context.opened plain h is away reads

    after_is : SeatOf moved after
    after_is = deed_seat d logs left tracks p.queries deed seat r (held p.context.slots) p.context.out p.context.opened plain h is away reads

    this : deed_on asks (tracks seat.number) ≡ Some deed
    this = ap asks (set_up_begun (tracks seat.number).steps is.sets_up) ∙ asked

    replied : IsPlainReply r.value.reply
    replied = let front = reads_front p.dialect p.armed seat.state (process_of p.dialect p.queries seat.status seat.cache deed) (left seat.number) r was_read in
        get_reply p.dialect seat.state seat.status p.queries seat.cache front.used r.value r.state deed gets front.each

    folds : (e : Option PoolError) → get_refusal fresh after r.value.reply ≡ e → FoldsAs (Some deed) (shown_reply e) (operation_of p.queries seat.cache deed) reads.answer
    folds e refused = record {
      stack = λ k. ap (λ (o : Option PoolError). after_kind (deed_kind deed) (shown_reply o) k) (sym refused) ∙ shows (deed_kind deed) fresh after r.value.reply k replied ∙ reads.stack k;
      live = λ k l. get_live p.queries seat.cache deed reads.answer.reply k gets;
    }

    asked_took : (e : Option PoolError) → get_refusal fresh after r.value.reply ≡ e → (fresh ≡ false → IsChecked r.value) → Took (readied p (with_left left seat.number r.left) line after e)
    asked_took None refused checked = record {
      tracks = moved;
      progress = handed_keeps d logs (with_left left seat.number r.left) moved (held p.context.slots) p.context.out p.context.opened after moved_all after_is away;
      is_of = is_of;
      grows = omega arith;
      open_blocks = refl;
      registers = deed_registers d logs left tracks p.queries deed seat r (held p.context.slots) p.context.out p.context.opened plain h is away reads asks line words.Get replies.Ok (Some after.status) this;
      entry = deed_says d logs left tracks p.queries deed seat r (held p.context.slots) p.context.out p.context.opened plain h is away reads policy p.context.blocks asks line words.Get replies.Ok (Some after.status) this
          (folds None refused) refl (ready_clean fresh after r.value.reply replied checked refused);
    }
    asked_took (Some e) refused checked = record {
      tracks = moved;
      progress = emptied_keeps d logs (with_left left seat.number r.left) moved p.context.out p.context.opened p.context.slots moved_all;
      is_of = is_of;
      grows = omega arith;
      open_blocks = refl;
      registers = deed_registers d logs left tracks p.queries deed seat r (held p.context.slots) p.context.out p.context.opened plain h is away reads asks line words.Get (replies.Pool e) None this;
      entry = deed_says d logs left tracks p.queries deed seat r (held p.context.slots) p.context.out p.context.opened plain h is away reads policy p.context.blocks asks line words.Get (replies.Pool e) None this
          (folds (Some e) refused) tt tt;
    }

-- ---- by what is asked

-- what is asked of a connection that was kept is a ping, which leaves a clean one so
abbrev pub AsksWell : Bool → Option Deed → Type 0
AsksWell true None = ⊤
AsksWell true (Some deed) = IsGetDeed deed
AsksWell false None = ⊤
AsksWell false (Some deed) = deed ≡ deeds.Ping

well_gets : (fresh : Bool) (deed : Deed) → AsksWell fresh (Some deed) → IsGetDeed deed
well_gets true deed well = well
well_gets false deed well = subst IsGetDeed (sym well) tt

module _ (d : Dialect) (logs left : ServerLogs) (policy : Policy) (tracks : Tracks) (p : Progress) (line : ℕ) (asks : Deeds) (fresh : Bool) (seat : Seat) (is_of : IsOf d policy p)
    (h : Keeps d logs left tracks (held p.context.slots) p.context.out p.context.opened) (is : SeatOf tracks seat) (away : IsAway (held p.context.slots) p.context.out p.context.opened seat.number)
    (clean : fresh ≡ false → is_broken seat.status ≡ false) where
  checked_read : (deed : Deed) (r : Read Outcome) → AsksWell fresh (Some deed) → read p.dialect p.armed seat.state (process_of p.dialect p.queries seat.status seat.cache deed) (left seat.number) ≡ Some r → fresh ≡ false → IsChecked r.value
  checked_read deed r well was_read kept =
      let ping : deed ≡ deeds.Ping = subst (λ (b : Bool). AsksWell b (Some deed)) kept well in
      let front = reads_front p.dialect p.armed seat.state (process_of p.dialect p.queries seat.status seat.cache deed) (left seat.number) r was_read in
      ping_checks p.dialect p.queries seat.state seat.status seat.cache front.used r.value r.state (clean kept)
      (subst (λ (x : Deed). Reads p.dialect seat.state (process_of p.dialect p.queries seat.status seat.cache x) front.used r.value r.state) ping front.each)

  pub ready_keeps : (deed : Option Deed) (t : Taken) → AsksWell fresh deed → IsPlainDeed p.queries deed → asks true ≡ deed → reads_ready p left line fresh deed seat ≡ Some t
      → TakenKeeps d logs policy tracks p.context.opened asks p.context.blocks p.context.blocks t
  ready_keeps None t well plain asked took =
      let e : readied p left line seat (get_refusal fresh seat replies.Ok) ≡ t = cc in
      subst (TakenKeeps d logs policy tracks p.context.opened asks p.context.blocks p.context.blocks) e
      (still_took d logs left policy tracks p line asks fresh seat is_of h is away (get_refusal fresh seat replies.Ok) asked (λ none. ready_clean fresh seat replies.Ok (inl refl) (λ kept. inr (clean kept)) none))
  ready_keeps (Some deed) t well plain asked took =
      by_read (read p.dialect p.armed seat.state (process_of p.dialect p.queries seat.status seat.cache deed) (left seat.number)) refl took
    where
      by_read : (o : Option (Read Outcome)) → read p.dialect p.armed seat.state (process_of p.dialect p.queries seat.status seat.cache deed) (left seat.number) ≡ o → option_map (taken_ready p left line fresh seat) o ≡ Some t
          → TakenKeeps d logs policy tracks p.context.opened asks p.context.blocks p.context.blocks t
      by_read None e i = absurd (cc)
      by_read (Some r) e i =
          let same : taken_ready p left line fresh seat r ≡ t = cc in
          let after : Seat = seat_after seat (length (left seat.number)) r in
          subst (TakenKeeps d logs policy tracks p.context.opened asks p.context.blocks p.context.blocks) same
          (asked_took d logs left policy tracks p line asks fresh seat is_of h is away deed r (well_gets fresh deed well) plain asked e (get_refusal fresh after r.value.reply) refl (checked_read deed r well e))
