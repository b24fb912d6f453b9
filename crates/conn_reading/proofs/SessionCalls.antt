-- One call more in the history of one connection of a session; those of the others stay.
use Rattle.std.proofs.Common.{◌≡◌, ◌≢◌, ℕ, ◌+◌, ◌<◌, true, if◌then◌else◌, List, [], ◌++◌, length, Option, Some, None, refl, sym, ap, subst, ◌∙◌, arith, inl, inr}
use Rattle.std.specs.Prelude.{◌==◌, ◌⊎◌, is_some}
use Rattle.std.proofs.lemmas.Bool.{cases_eq}
use Rattle.conn_model.specs.declared.item.Dialect.{Dialect}
use Rattle.conn_model.specs.declared.item.Item.{Item}
use Rattle.conn_manager.specs.Manages.{Done}
use Rattle.conn_manager.specs.Statuses.{Status}
use Rattle.conn_report.specs.declared.entry.Reply.{Reply}
use Rattle.conn_script.specs.declared.command.Word.{Word}
use Rattle.conn_model.specs.Caches.{Register}
use Rattle.conn_reading.specs.Answered.{ServerLogs, with_left}
use Rattle.conn_reading.specs.Asking.{Policy}
use Rattle.conn_reading.specs.Folds.{Stack, alone, fold_of, after_reply, kind_of, KeepsLive, AllKeepLive}
use Rattle.conn_reading.specs.Histories.{Operation, IsOperation, operation_process, Step, step_items, StartsSetUp}
use Rattle.conn_reading.specs.Owning.{names_of}
use Rattle.conn_reading.specs.Reading.{Read, Reads}
use Rattle.conn_reading.specs.Seats.{Seat, make_entry}
use Rattle.conn_reading.specs.Sessions.{IsClean, mark_of, after_deed, after_mark, between, DeedLive, MarkLive}
use Rattle.conn_reading.specs.declared.blocks.Block.{Block}
use Rattle.conn_reading.specs.declared.deed.Deed.{Deed}
use Rattle.conn_reading.proofs.SessionKept.{Tracks, SeatIs, SeatOf, EndsWith, IsAt, Deeds, deed_on, EntrySays}
use Rattle.conn_reading.proofs.Rising.{RisesTo}
use Rattle.conn_reading.proofs.Tracks.{Track, IsTrack, moved, moved_is, moved_count, has_call, begun-last, folded, folded_at, fold-last, live-last, between_is}

-- ---- one number of many

abbrev pub with_track : Tracks → ℕ → Track → Tracks
with_track tracks n t k = if k == n then t else tracks k

pub track_same : (tracks : Tracks) (n : ℕ) (t : Track) → with_track tracks n t n ≡ t
track_same tracks n t = grind arith

track_other : (tracks : Tracks) (n k : ℕ) (t : Track) → k ≢ n → with_track tracks n t k ≡ tracks k
track_other tracks n k t h = grind arith

left_same : (logs : ServerLogs) (n : ℕ) (rest : List Item) → with_left logs n rest n ≡ rest
left_same logs n rest = grind arith

left_other : (logs : ServerLogs) (n k : ℕ) (rest : List Item) → k ≢ n → with_left logs n rest k ≡ logs k
left_other logs n k rest h = grind arith

pub mark_same : (n m : ℕ) → mark_of n (Some n) (Some m) ≡ Some m
mark_same n m = grind arith

pub mark_other : (n c m : ℕ) → c ≢ n → mark_of n (Some c) (Some m) ≡ None
mark_other n c m h = grind arith

-- what is so of an entry without a mark, and of the one that moved, is so
moves_each : (tracks : Tracks) (n : ℕ) (after : Track) (P : ℕ → Option ℕ → Track → Type 0) (mark : ℕ) → ((k : ℕ) → P k None (tracks k)) → P n (Some mark) after → (k : ℕ) → P k (mark_of k (Some n) (Some mark)) (with_track tracks n after k)
moves_each tracks n after P mark others this k = elim (cases_eq n k) [
  | inl same ↦ subst (λ (j : ℕ). P j (mark_of j (Some n) (Some mark)) (with_track tracks n after j)) same
      (subst (λ (o : Option ℕ). P n o (with_track tracks n after n)) (sym (mark_same n mark)) (subst (λ (t : Track). P n (Some mark) t) (sym (track_same tracks n after)) this))
  | inr apart ↦ subst (λ (o : Option ℕ). P k o (with_track tracks n after k)) (sym (mark_other k n mark apart)) (subst (λ (t : Track). P k None t) (sym (track_other tracks n k after (λ e. apart (sym e)))) (others k))
]

-- ---- one call more

-- a call that follows a history read the next of the items that are left, which leave this register
pub record CallReads (d : Dialect) (left : List Item) (t : Track) (operation : Operation) (r : Read Done) : Type 0 where
  pub is : IsOperation operation
  pub used : List Item
  pub all : left ≡ used ++ r.left
  pub each : Reads d t.state (operation_process d t.status operation) used r.value r.state
  pub register : Register
  pub names : RisesTo t.register.counter (names_of used) register.counter

-- an entry's deed and reply do to the fold what the call does
pub record FoldsAs (deed : Option Deed) (reply : Reply) (operation : Operation) (a : Done) : Type 0 where
  pub stack : (k : Stack) → after_deed deed reply k ≡ after_reply (kind_of operation) a.reply k
  pub live : (k : Stack) → DeedLive deed reply k → KeepsLive (kind_of operation) a.reply k

module _ (d : Dialect) (logs left : ServerLogs) (tracks : Tracks) (n : ℕ) (operation : Operation) (r : Read Done) (tracked : (k : ℕ) → IsTrack d (logs k) (left k) (tracks k)) (c : CallReads d (left n) (tracks n) operation r) where
  abbrev before : Track
  before = tracks n

  abbrev next : Track
  next = moved before operation c.used r c.register

  -- the histories with the call
  abbrev pub with_call : Tracks
  with_call = with_track tracks n next

  next_is : IsTrack d (logs n) r.left next
  next_is = moved_is d operation (logs n) (left n) before c.used r c.register c.all c.each c.is c.names (tracked n)

  pub call_tracked : (k : ℕ) → IsTrack d (logs k) (with_left left n r.left k) (with_call k)
  call_tracked k = elim (cases_eq k n) [
    | inl same ↦ subst (λ (j : ℕ). IsTrack d (logs j) (with_left left n r.left j) (with_call j)) (sym same)
        (subst (λ (l : List Item). IsTrack d (logs n) l (with_call n)) (sym (left_same left n r.left)) (subst (λ (t : Track). IsTrack d (logs n) r.left t) (sym (track_same tracks n next)) next_is))
    | inr apart ↦ subst (λ (l : List Item). IsTrack d (logs k) l (with_call k)) (sym (left_other left n k r.left apart)) (subst (λ (t : Track). IsTrack d (logs k) (left k) t) (sym (track_other tracks n k next apart)) (tracked k))
  ]

  pub call_apart : (k : ℕ) → k ≢ n → with_call k ≡ tracks k
  call_apart k apart = track_other tracks n k next apart

  -- so are the registers of the others
  pub call_registers : (P : Register → Register → Type 0) → P (tracks n).register c.register → (k : ℕ) → ((with_call k).register ≡ (tracks k).register) ⊎ ((n ≡ k) × P (tracks k).register (with_call k).register)
  call_registers P p k = elim (cases_eq n k) [
    | inl same ↦ inr (same, subst (λ (j : ℕ). P (tracks j).register (with_call j).register) same (subst (λ (t : Track). P (tracks n).register t.register) (sym (track_same tracks n next)) p))
    | inr apart ↦ inl (ap (λ (t : Track). t.register) (call_apart k (λ e. apart (sym e))))
  ]

  pub call_other : (seat : Seat) → seat.number ≢ n → SeatOf tracks seat → SeatOf with_call seat
  call_other seat apart h = subst (λ (t : Track). SeatIs t seat) (sym (call_apart seat.number apart)) h

  -- the connection is as the call leaves it
  pub call_seat : (seat : Seat) → seat.number ≡ n → r.value.status ≡ seat.status → r.state ≡ seat.state → c.register ≡ seat.cache.register → seat.mark ≡ length (step_items before.steps) + length c.used → StartsSetUp next.steps → SeatOf with_call seat
  call_seat seat numbered status state register count sets_up =
      subst (λ (k : ℕ). SeatIs (with_call k) seat) (sym numbered) (subst (λ (x : Track). SeatIs x seat) (sym (track_same tracks n next)) (record { status = status; state = state; register = register; mark = moved_count before operation c.used r c.register ∙ sym count; sets_up = sets_up }))

  pub call_ends : (S : Status) (mark : ℕ) → r.value.status ≡ S → mark ≡ length (step_items before.steps) + length c.used → StartsSetUp next.steps → EndsWith d (logs n) S mark (with_call n)
  call_ends S mark status count sets_up = subst (EndsWith d (logs n) S mark) (sym (track_same tracks n next)) (record { left = r.left; tracked = next_is; status = status; mark_is = moved_count before operation c.used r c.register ∙ sym count; sets_up = sets_up })

  all_read : logs n ≡ step_items before.steps ++ (c.used ++ r.left)
  all_read = (tracked n).all ∙ ap (λ (l : List Item). step_items before.steps ++ l) c.all

  next_folds : (policy : Policy) (blocks : List Block) (deed : Option Deed) (reply : Reply) (mark : ℕ) → FoldsAs deed reply operation r.value → mark ≡ length (step_items before.steps) + length c.used
      → after_mark (logs n) deed reply (folded policy blocks before) (Some mark) ≡ folded policy blocks next
  next_folds policy blocks deed reply mark f count =
      let step : Step = record { operation = operation; items = c.used; answer = r.value } in
      folded_at (folded policy blocks before) mark (length (step_items next.steps)) _ (fold_of next.steps (alone [])) (has_call next.steps)
      (count ∙ sym (moved_count before operation c.used r c.register))
      (f.stack (between (logs n) (folded policy blocks before) mark) ∙ ap (λ (k : Stack). after_reply (kind_of operation) r.value.reply k) (between_is (logs n) c.used r.left policy blocks before mark all_read count) ∙ sym (fold-last before.steps step (alone [])))
      (begun-last before.steps step)

  next_live : (policy : Policy) (blocks : List Block) (deed : Option Deed) (reply : Reply) (mark : ℕ) → FoldsAs deed reply operation r.value → mark ≡ length (step_items before.steps) + length c.used
      → DeedLive deed reply (between (logs n) (folded policy blocks before) mark) → AllKeepLive before.steps (alone []) → AllKeepLive next.steps (alone [])
  next_live policy blocks deed reply mark f count live h =
      let step : Step = record { operation = operation; items = c.used; answer = r.value } in
      live-last before.steps step (alone []) h (subst (λ (k : Stack). KeepsLive (kind_of operation) r.value.reply k) (between_is (logs n) c.used r.left policy blocks before mark all_read count) (f.live (between (logs n) (folded policy blocks before) mark) live))

  -- what the entry says that shows the call
  pub call_says : (policy : Policy) (opened : ℕ) (blocks : List Block) (deeds : Deeds) (line : ℕ) (word : Word) (reply : Reply) (status : Option Status) (mark : ℕ) → n < opened → IsAt d logs with_call (Some n) status (Some mark) → IsClean word reply status
      → FoldsAs (deed_on deeds before) reply operation r.value → mark ≡ length (step_items before.steps) + length c.used → EntrySays d logs policy tracks with_call opened blocks deeds (make_entry line word (Some n) reply status (Some mark))
  call_says policy opened blocks deeds line word reply status mark low at clean f count = record {
    at = at;
    clean = clean;
    folds = moves_each tracks n next (λ k o x. after_mark (logs k) (deed_on deeds (tracks k)) reply (folded policy blocks (tracks k)) o ≡ folded policy blocks x) mark (λ k. refl) (next_folds policy blocks (deed_on deeds before) reply mark f count);
    live = moves_each tracks n next (λ k o x. MarkLive (logs k) (deed_on deeds (tracks k)) reply (folded policy blocks (tracks k)) o → AllKeepLive (tracks k).steps (alone []) → AllKeepLive x.steps (alone [])) mark (λ k l g. g) (next_live policy blocks (deed_on deeds before) reply mark f count);
    opened_before = moves_each tracks n next (λ k o x. is_some o ≡ true → k < opened) mark (λ k e. absurd (cc)) (λ e. low);
  }
