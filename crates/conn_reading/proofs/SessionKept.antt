-- The histories of all connections of a session, as far as their logs are read.
use Rattle.std.proofs.Common.{◌≡◌, ℕ, ◌+◌, ◌<◌, ◌≤◌, Bool, true, false, if◌then◌else◌, List, [], length, Option, Some, None, refl, sym, ap, subst, ◌∙◌, arith}
use Rattle.std.specs.Prelude.{◌==◌, ◌⊎◌, is_some, ⊤}
use Rattle.conn_model.specs.declared.item.Dialect.{Dialect}
use Rattle.conn_model.specs.declared.item.Item.{Item}
use Rattle.conn_manager.specs.Statuses.{Status, is_broken}
use Rattle.conn_model.specs.Caches.{Register}
use Rattle.conn_cache.specs.declared.key.StatementCacheKey.{StatementCacheKey}
use Rattle.conn_report.specs.declared.entry.Entry.{Entry}
use Rattle.conn_report.specs.declared.entry.Reply.{Reply}
use Rattle.conn_script.specs.declared.command.Word.{Word}
use Rattle.conn_script.specs.declared.query.Declared.{Declared}
use Rattle.conn_reading.specs.Answered.{ServerLogs, Progress, Taken}
use Rattle.conn_reading.specs.Asking.{Policy}
use Rattle.conn_reading.specs.Folds.{alone, AllKeepLive}
use Rattle.conn_reading.specs.Histories.{step_items, StartsSetUp}
use Rattle.conn_reading.specs.Prepared.{LeavesUnbounded}
use Rattle.conn_reading.specs.Seats.{Seat, at_number}
use Rattle.conn_reading.specs.Sessions.{Each, QueriesPlain, IsClean, Folded, mark_of, after_mark, MarkLive}
use Rattle.conn_reading.specs.declared.blocks.Block.{Block}
use Rattle.conn_reading.specs.declared.deed.Deed.{Deed}
use Rattle.conn_reading.proofs.EachSeat.{held, count}
use Rattle.conn_reading.proofs.ByNumber.{one_there}
use Rattle.conn_reading.proofs.KeysKept.{HoldsKey}
use Rattle.conn_reading.proofs.Tracks.{Track, IsTrack, no_track, has_call, set_up_begun, folded, folded_at, between_none}

-- for each connection, by its number, its history
abbrev pub Tracks : Type 0
Tracks = ℕ → Track

-- a connection is as its history leaves it
pub record SeatIs (t : Track) (seat : Seat) : Type 0 where
  pub status : t.status ≡ seat.status
  pub state : t.state ≡ seat.state
  pub register : t.register ≡ seat.cache.register
  pub mark : length (step_items t.steps) ≡ seat.mark
  pub sets_up : StartsSetUp t.steps

abbrev pub SeatOf : Tracks → Seat → Type 0
SeatOf tracks seat = SeatIs (tracks seat.number) seat

abbrev pub IsFree : Seat → Type 0
IsFree seat = is_broken seat.status ≡ false

-- the connection of a number is as its history leaves it
abbrev pub IsAtNumber : Tracks → ℕ → Seat → Type 0
IsAtNumber tracks n seat = (seat.number ≡ n) × SeatOf tracks seat

-- each connection is as its history leaves it and has a number of its own, those in slots are kept, those that are out
-- stand at the places of their numbers, of which each opened server has one, and no server that isn't opened is read
pub record Keeps (d : Dialect) (logs left : ServerLogs) (tracks : Tracks) (slots : List Seat) (out : List (Option Seat)) (opened : ℕ) : Type 0 where
  pub tracked : (n : ℕ) → IsTrack d (logs n) (left n) (tracks n)
  pub unopened : (n : ℕ) → opened ≤ n → tracks n ≡ no_track
  pub in_slots : Each (SeatOf tracks) slots
  pub free : Each IsFree slots
  pub places : length out ≡ opened
  pub in_out : (n : ℕ) (seat : Seat) → at_number n out ≡ Some seat → IsAtNumber tracks n seat
  pub once : (n : ℕ) → count n slots + one_there (at_number n out) ≤ 1
  pub none : (n : ℕ) → opened ≤ n → count n slots ≡ 0

abbrev pub ProgressKeeps : Dialect → ServerLogs → ServerLogs → Tracks → Progress → Type 0
ProgressKeeps d logs left tracks p = Keeps d logs left tracks (held p.context.slots) p.context.out p.context.opened

-- a history begins with a setup, ends with the status, and has read the log up to the mark
pub record EndsWith (d : Dialect) (log : List Item) (S : Status) (mark : ℕ) (t : Track) : Type 0 where
  pub left : List Item
  pub tracked : IsTrack d log left t
  pub status : t.status ≡ S
  pub mark_is : length (step_items t.steps) ≡ mark
  pub sets_up : StartsSetUp t.steps

-- a status comes with a connection and a mark, and is where that connection's history ends
abbrev pub IsAt : Dialect → ServerLogs → Tracks → Option ℕ → Option Status → Option ℕ → Type 0
IsAt d logs tracks connection None mark = ⊤
IsAt d logs tracks None (Some S) mark = ⊥
IsAt d logs tracks (Some n) (Some S) None = ⊥
IsAt d logs tracks (Some n) (Some S) (Some mark) = EndsWith d (logs n) S mark (tracks n)

-- an entry shows this status, or none
abbrev pub IfShown : Status → Option Status → Type 0
IfShown S None = ⊤
IfShown S (Some x) = x ≡ S

-- what a command does on a connection, by whether that made a call
abbrev pub Deeds : Type 0
Deeds = Bool → Option Deed

abbrev pub deed_on : Deeds → Track → Option Deed
deed_on deeds t = deeds (has_call t.steps)

-- what the entry of a command says, between the histories before it and after it, where these blocks are open
pub record EntrySays (d : Dialect) (logs : ServerLogs) (policy : Policy) (before after : Tracks) (opened : ℕ) (blocks : List Block) (deeds : Deeds) (e : Entry) : Type 0 where
  pub at : IsAt d logs after e.connection e.status e.mark
  pub clean : IsClean e.word e.reply e.status
  pub folds : (n : ℕ) → after_mark (logs n) (deed_on deeds (before n)) e.reply (folded policy blocks (before n)) (mark_of n e.connection e.mark) ≡ folded policy blocks (after n)
  pub live : (n : ℕ) → MarkLive (logs n) (deed_on deeds (before n)) e.reply (folded policy blocks (before n)) (mark_of n e.connection e.mark) → AllKeepLive (before n).steps (alone []) → AllKeepLive (after n).steps (alone [])
  pub opened_before : (n : ℕ) → is_some (mark_of n e.connection e.mark) ≡ true → n < opened

-- servers of this dialect, queries with plain texts, and a pool that asks by this policy
pub record IsSetUp (d : Dialect) (policy : Policy) (of : Dialect) (queries : List Declared) (asks : Policy) : Type 0 where
  pub dialect : of ≡ d
  pub plain : QueriesPlain queries
  pub asked : asks ≡ policy

-- the reading is one of these
abbrev pub IsOf : Dialect → Policy → Progress → Type 0
IsOf d policy p = IsSetUp d policy p.dialect p.queries p.policy

-- a deed keeps the keys of a register, unless it gives another size
abbrev pub DeedKeepsKeys : Option Deed → Register → Register → Type 0
DeedKeepsKeys None r r' = ⊥
DeedKeepsKeys (Some deed) r r' = (key : StatementCacheKey) → LeavesUnbounded deed → HoldsKey key r → HoldsKey key r'

-- the register of connection n stays, or the entry shows a deed on n that keeps its keys
abbrev pub KeepsKeys : Entry → Option Deed → ℕ → Register → Register → Type 0
KeepsKeys e deed n r r' = (r' ≡ r) ⊎ ((e.connection ≡ Some n) × (is_some e.mark ≡ true) × DeedKeepsKeys deed r r')

-- after a command of these deeds, which found some blocks open and leaves others
pub record TakenKeeps (d : Dialect) (logs : ServerLogs) (policy : Policy) (before : Tracks) (opened : ℕ) (deeds : Deeds) (blocks left : List Block) (t : Taken) : Type 0 where
  pub tracks : Tracks
  pub progress : ProgressKeeps d logs t.left tracks t.progress
  pub is_of : IsOf d policy t.progress
  pub grows : opened ≤ t.progress.context.opened
  pub open_blocks : t.progress.context.blocks ≡ left
  pub registers : (n : ℕ) → KeepsKeys t.entry (deed_on deeds (before n)) n (before n).register (tracks n).register
  pub entry : EntrySays d logs policy before tracks t.progress.context.opened blocks deeds t.entry

-- an entry of one number alone
pub only_then : (n c m : ℕ) (P : Option ℕ → Type 0) → (c ≡ n → P (Some m)) → P None → P (mark_of n (Some c) (Some m))
only_then n c m P some none = by_case (c == n) refl
  where
    by_case : (b : Bool) → (c == n) ≡ b → P (if b then Some m else None)
    by_case true e = some (grind arith)
    by_case false e = none

-- an entry of a connection that nothing is read of
still_folds : (n c m : ℕ) (log : List Item) (deed : Option Deed) (reply : Reply) (f : Folded) → (c ≡ n → m ≡ f.mark) → (c ≡ n → f.begun ≡ true) → (c ≡ n → deed ≡ None) → after_mark log deed reply f (mark_of n (Some c) (Some m)) ≡ f
still_folds n c m log deed reply f same begun none =
    only_then n c m (λ (o : Option ℕ). after_mark log deed reply f o ≡ f)
    (λ e. subst (λ (x : Option Deed). after_mark log x reply f (Some m) ≡ f) (sym (none e)) (folded_at f m f.mark _ f.stack f.begun (same e) (between_none log f m (same e)) (begun e)))
    refl

-- of an entry without a mark nothing is said
pub says_nothing : (d : Dialect) (logs : ServerLogs) (policy : Policy) (tracks : Tracks) (opened : ℕ) (blocks : List Block) (deeds : Deeds) (line : ℕ) (word : Word) (connection : Option ℕ) (reply : Reply) → IsClean word reply None
    → EntrySays d logs policy tracks tracks opened blocks deeds (record { line = line; word = word; connection = connection; reply = reply; status = None; mark = None })
says_nothing d logs policy tracks opened blocks deeds line word connection reply clean = record {
  at = tt;
  clean = clean;
  folds = λ n. by_number n connection;
  live = λ n h l. l;
  opened_before = λ n is. absurd (never n connection is);
}
  where
    unmarked : (n : ℕ) (b : Bool) → after_mark (logs n) (deed_on deeds (tracks n)) reply (folded policy blocks (tracks n)) (if b then None else None) ≡ folded policy blocks (tracks n)
    unmarked n true = refl
    unmarked n false = refl

    by_number : (n : ℕ) (c : Option ℕ) → after_mark (logs n) (deed_on deeds (tracks n)) reply (folded policy blocks (tracks n)) (mark_of n c None) ≡ folded policy blocks (tracks n)
    by_number n None = refl
    by_number n (Some c) = unmarked n (c == n)

    no_mark : (b : Bool) → (let o : Option ℕ = if b then None else None in is_some o) ≡ true → ⊥
    no_mark true is = absurd (cc)
    no_mark false is = absurd (cc)

    never : (n : ℕ) (c : Option ℕ) → is_some (mark_of n c None) ≡ true → ⊥
    never n None is = absurd (cc)
    never n (Some c) is = no_mark (c == n) is

-- an entry of a connection that is there, and that nothing is read of for want of a deed
pub says_still : (d : Dialect) (logs left : ServerLogs) (policy : Policy) (tracks : Tracks) (opened : ℕ) (blocks : List Block) (deeds : Deeds) (line : ℕ) (word : Word) (reply : Reply) (status : Option Status) (seat : Seat)
    → ((n : ℕ) → IsTrack d (logs n) (left n) (tracks n)) → SeatOf tracks seat → deeds true ≡ None → IfShown seat.status status → IsClean word reply status → seat.number < opened
    → EntrySays d logs policy tracks tracks opened blocks deeds (record { line = line; word = word; connection = Some seat.number; reply = reply; status = status; mark = Some seat.mark })
says_still d logs left policy tracks opened blocks deeds line word reply status seat tracked is none shown clean low = record {
  at = at status shown;
  clean = clean;
  folds = λ n. still_folds n seat.number seat.mark (logs n) (deed_on deeds (tracks n)) reply (folded policy blocks (tracks n))
      (λ e. sym is.mark ∙ ap (λ (k : ℕ). length (step_items (tracks k).steps)) e)
      (λ e. begun n e)
      (λ e. ap deeds (begun n e) ∙ none);
  live = λ n h l. l;
  opened_before = λ n. only_then n seat.number seat.mark (λ (o : Option ℕ). is_some o ≡ true → n < opened) (λ e h. subst (λ (k : ℕ). k < opened) e low) (λ h. absurd (cc));
}
  where
    begun : (n : ℕ) → seat.number ≡ n → has_call (tracks n).steps ≡ true
    begun n e = subst (λ (k : ℕ). has_call (tracks k).steps ≡ true) e (set_up_begun (tracks seat.number).steps is.sets_up)

    at : (o : Option Status) → IfShown seat.status o → IsAt d logs tracks (Some seat.number) o (Some seat.mark)
    at None g = tt
    at (Some S) g = record { left = left seat.number; tracked = tracked seat.number; status = is.status ∙ sym g; mark_is = is.mark; sets_up = is.sets_up }
