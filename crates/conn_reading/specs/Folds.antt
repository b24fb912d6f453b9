-- The writes that the calls of a connection keep, level by level, without a server: the fold.
use Rattle.std.specs.Prelude.{◌≡◌, ℕ, suc, ◌-◌, ◌<◌, Bool, true, false, ⊤, List, [], ◌∷◌, ◌++◌, length, drop, nat_eq, nat_lt, ◌&&◌, if◌then◌else◌, Option, Some, None, Ok, Err}
use Rattle.std.specs.List.{list_any}
use Rattle.conn_model.specs.States.{State, Idle, Open, Lost, Transaction, Mark, Writes, step, state_of, find_mark}
use Rattle.conn_model.specs.declared.class.Class.{Class}
use Rattle.conn_model.specs.declared.class.Class.TheVariants as of
use Rattle.conn_model.specs.declared.item.Answer.{Answer}
use Rattle.conn_model.specs.declared.item.Answer.TheVariants.{Accepted, Refused}
use Rattle.conn_model.specs.declared.item.Dialect.{Dialect}
use Rattle.conn_model.specs.declared.item.Effect.{Effect}
use Rattle.conn_model.specs.declared.item.Effect.TheVariants.{Aborts, Ends, Loses}
use Rattle.conn_model.specs.declared.item.Item.{Item}
pub use Rattle.conn_server.specs.Logged.{is_accepted}
use Rattle.conn_manager.specs.Manages.{Reply}
use Rattle.conn_manager.specs.Statuses.{Status}
use Rattle.conn_manager.specs.declared.status.InTransactionStatus.{InTransactionStatus}
use Rattle.conn_manager.specs.declared.status.TransactionManagerStatus.TheVariants.{Valid, InError}
use Rattle.conn_script.specs.declared.command.BlockKind.{BlockKind}
use Rattle.conn_script.specs.declared.command.BlockKind.TheVariants.{Plain, Test, Form}
use Rattle.conn_reading.specs.Histories.{Operation, Begin, BeginBy, Commit, Rollback, TestBegin, Close, Asks, Step, step_items}
use Rattle.conn_reading.specs.Verdicts.{is_refused_by, runs_class}

-- ---- the stack

-- the writes of a level, and whether an item in it aborted the transaction
pub record Level : Type 0 where
  pub writes : Writes
  pub doomed : Bool

-- the lowest list, and the levels above it, top first
pub record Stack : Type 0 where
  pub lowest : Writes
  pub levels : List Level

-- one list
abbrev pub alone : Writes → Stack
alone w = record { lowest = w; levels = [] }

-- a level without writes
abbrev pub empty_level : Level
empty_level = record { writes = []; doomed = false }

-- an empty level is pushed
abbrev pub pushed : Stack → Stack
pushed k = record k { levels = empty_level ∷ k.levels }

-- by the lists: the top one is appended to the one below
abbrev pub merged_in : Writes → List Level → Stack
merged_in w [] = record { lowest = w; levels = [] }
merged_in w (l ∷ []) = record { lowest = w ++ l.writes; levels = [] }
merged_in w (l ∷ m ∷ ls) = record { lowest = w; levels = record m { writes = m.writes ++ l.writes } ∷ ls }

-- the top level is kept: it goes into the list below
abbrev pub merged : Stack → Stack
merged k = merged_in k.lowest k.levels

-- the levels below the top one
abbrev pub without_top : List Level → List Level
without_top [] = []
without_top (l ∷ ls) = ls

-- the top level is dropped
abbrev pub dropped : Stack → Stack
dropped k = record k { levels = without_top k.levels }

-- all levels are dropped
abbrev pub emptied : Stack → Stack
emptied k = record k { levels = [] }

-- by the lists: the text is appended to the top one
abbrev pub written_in : List ℕ → Writes → List Level → Stack
written_in text w [] = record { lowest = w ++ text ∷ []; levels = [] }
written_in text w (l ∷ ls) = record { lowest = w; levels = record l { writes = l.writes ++ text ∷ [] } ∷ ls }

-- the text is written
abbrev pub written : List ℕ → Stack → Stack
written text k = written_in text k.lowest k.levels

-- the top one of these is doomed
abbrev pub doomed_in : List Level → List Level
doomed_in [] = []
doomed_in (l ∷ ls) = record l { doomed = true } ∷ ls

-- the top level is doomed
abbrev pub doom : Stack → Stack
doom k = record k { levels = doomed_in k.levels }

-- ---- what items do

-- of this class are the texts that write
abbrev pub is_write_class : Class → Bool
is_write_class of.Write = true
is_write_class _ = false

-- of these classes are the texts that begin or end a transaction, or a part of it
abbrev pub is_transaction_class : Class → Bool
is_transaction_class of.Write = false
is_transaction_class of.Other = false
is_transaction_class _ = true

-- of these classes are the texts that set a savepoint
abbrev pub is_savepoint_class : Class → Bool
is_savepoint_class (of.Savepoint k) = true
is_savepoint_class _ = false

-- the transaction is over by it
abbrev pub ends : Effect → Bool
ends Ends = true
ends Loses = true
ends _ = false

-- the transaction accepts nothing but its end after it
abbrev pub aborts : Effect → Bool
aborts Aborts = true
aborts _ = false

-- an item that aborts the transaction dooms the level on top
abbrev pub after_abort : Answer → Stack → Stack
after_abort Accepted k = k
after_abort (Refused r e) k = if aborts e then doom k else k

-- an accepted item that runs a write
abbrev pub runs_write : Item → Bool
runs_write i = is_accepted i.answer && runs_class is_write_class i.call i.text

-- its text is appended to the list on top
abbrev pub after_write : Item → Stack → Stack
after_write i k = if runs_write i then written i.text k else k

-- an item that ends the transaction, or loses the server, drops all levels
abbrev pub after_end : Answer → Stack → Stack
after_end Accepted k = k
after_end (Refused r e) k = if ends e then emptied k else k

-- what one item does
abbrev pub after_item : Item → Stack → Stack
after_item i k = after_end i.answer (after_write i (after_abort i.answer k))

-- what items do, one after another
abbrev pub after_items : List Item → Stack → Stack
after_items [] k = k
after_items (i ∷ is) k = after_items is (after_item i k)

-- ---- what calls do

-- what a call is to the stack
pub data Kind : Type 0 where
  Begins : Kind
  Commits : Kind
  Rolls : Kind
  Closes : BlockKind → Kind
  Sends : Kind

-- Ok pushes a level, keeps the top one or drops it; a block that closes keeps its level where the answer is Ok and it is no
-- test's, and else drops it
abbrev pub after_reply : Kind → Reply → Stack → Stack
after_reply Begins (Ok u) k = pushed k
after_reply Commits (Ok u) k = merged k
after_reply Rolls (Ok u) k = dropped k
after_reply (Closes Plain) (Ok u) k = merged k
after_reply (Closes Plain) (Err e) k = dropped k
after_reply (Closes (Form form)) (Ok u) k = merged k
after_reply (Closes (Form form)) (Err e) k = dropped k
after_reply (Closes Test) r k = dropped k
after_reply Sends r k = k
after_reply Begins (Err e) k = k
after_reply Commits (Err e) k = k
after_reply Rolls (Err e) k = k

-- the kind of a call
abbrev pub kind_of : Operation → Kind
kind_of Begin = Begins
kind_of (BeginBy text) = Begins
kind_of Commit = Commits
kind_of Rollback = Rolls
kind_of TestBegin = Begins
kind_of (Close kind answer) = Closes kind
kind_of (Asks f) = Sends

-- first its items, then its reply
abbrev pub after_step : Step → Stack → Stack
after_step e k = after_reply (kind_of e.operation) e.answer.reply (after_items e.items k)

-- Fold: the stack after the calls
abbrev pub fold_of : List Step → Stack → Stack
fold_of [] k = k
fold_of (e ∷ es) k = fold_of es (after_step e k)

-- ---- what the fold takes for granted

-- a refused item that runs a text of a transaction
abbrev pub refuses_transaction : Item → Bool
refuses_transaction i = is_refused_by i.answer && runs_class is_transaction_class i.call i.text

-- no transaction is open, and the server isn't lost
abbrev pub is_idle : State → Bool
is_idle (Idle w) = true
is_idle (Open o) = false
is_idle (Lost w) = false

-- an accepted item that sets a savepoint
abbrev pub sets : Item → Bool
sets i = is_accepted i.answer && runs_class is_savepoint_class i.call i.text

-- no savepoint is accepted while the server is idle
abbrev pub SetsInOpen : Dialect → State → List Item → Type 0
SetsInOpen d s [] = ⊤
SetsInOpen d s (i ∷ is) = (sets i ≡ true → is_idle s ≡ false) × ((after : State) → step d s i ≡ Some after → SetsInOpen d after is)

-- the level on top is doomed
abbrev pub IsDoomed : List Level → Type 0
IsDoomed [] = ⊥
IsDoomed (l ∷ ls) = l.doomed ≡ true

-- a doomed level isn't kept
abbrev pub KeepsLive : Kind → Reply → Stack → Type 0
KeepsLive Commits (Ok u) k = IsDoomed k.levels → ⊥
KeepsLive Commits (Err e) k = ⊤
KeepsLive (Closes Plain) (Ok u) k = IsDoomed k.levels → ⊥
KeepsLive (Closes Plain) (Err e) k = ⊤
KeepsLive (Closes (Form form)) (Ok u) k = IsDoomed k.levels → ⊥
KeepsLive (Closes (Form form)) (Err e) k = ⊤
KeepsLive (Closes Test) r k = ⊤
KeepsLive Begins r k = ⊤
KeepsLive Rolls r k = ⊤
KeepsLive Sends r k = ⊤

-- no doomed level is kept along the calls
abbrev pub AllKeepLive : List Step → Stack → Type 0
AllKeepLive [] k = ⊤
AllKeepLive (e ∷ es) k = KeepsLive (kind_of e.operation) e.answer.reply (after_items e.items k) × AllKeepLive es (after_step e k)

-- no text of a transaction is refused, no savepoint is set in an idle server, and no level in which the transaction was
-- aborted is kept
pub record FoldPremises (d : Dialect) (steps : List Step) : Type 0 where
  pub none_refused : list_any refuses_transaction (step_items steps) ≡ false
  pub none_in_idle : SetsInOpen d (Idle []) (step_items steps)
  pub live : AllKeepLive steps (alone [])

-- ---- the stack is what the server holds

-- what a level and those below it hold
abbrev pub total : Writes → List Level → Writes
total w [] = w
total w (l ∷ ls) = total w ls ++ l.writes

-- the lowest levels, so many
abbrev pub lowest_levels : ℕ → List Level → List Level
lowest_levels n ls = drop (length ls - n) ls

-- where a depth is tracked
abbrev pub HasDepthIn : Option InTransactionStatus → ℕ → Type 0
HasDepthIn None n = ⊥
HasDepthIn (Some t) n = t.transaction_depth ≡ n

-- the status tracks this depth
abbrev pub HasDepth : Status → ℕ → Type 0
HasDepth (Valid v) n = HasDepthIn v.in_transaction n
HasDepth InError n = ⊥

-- the newest mark of this number holds these writes
pub record MarkHolds (marks : List Mark) (number : ℕ) (writes : Writes) : Type 0 where
  pub mark : Mark
  pub older : List Mark
  pub found : find_mark number marks ≡ Some (mark, older)
  pub holds : mark.writes ≡ writes

-- an open transaction: the stack has as many levels as the tracked depth says; the base is the lowest list; the newest mark
-- of each savepoint that the depth counts holds the lists up to its level; and all of them are what the transaction holds,
-- unless it is aborted
pub record HoldsLevels (S : Status) (o : Transaction) (k : Stack) : Type 0 where
  pub depth : HasDepth S (length k.levels)
  pub base : o.base ≡ k.lowest
  pub marks : (n : ℕ) → 0 < n → n < length k.levels → MarkHolds o.marks n (total k.lowest (lowest_levels n k.levels))
  pub now : o.aborted ≡ false → o.now ≡ total k.lowest k.levels

-- where no transaction is open the stack has one list, which is what the server keeps
abbrev pub HoldsStack : Status → State → Stack → Type 0
HoldsStack S (Idle w) k = k ≡ alone w
HoldsStack S (Open o) k = HoldsLevels S o k
HoldsStack S (Lost w) k = k ≡ alone w

-- Nested meaning: the log is lawful, and its server holds the stack
pub record NestedMeaning (d : Dialect) (S : Status) (log : List Item) (k : Stack) : Type 0 where
  pub state : State
  pub lawful : state_of d log ≡ Some state
  pub holds : HoldsStack S state k

-- ---- the invariant from which it follows

-- the one or the other
abbrev pub Choose : Bool → Type 0 → Type 0 → Type 0
Choose true a b = a
Choose false a b = b

-- the newest mark of each level's number holds what stands up to that level, and is newer than the next one
abbrev pub Stands : Writes → List Level → List Mark → Type 0
Stands w [] marks = ⊤
Stands w (l ∷ ls) [] = ⊥
Stands w (l ∷ ls) (m ∷ older) =
    Choose (nat_eq m.number (suc (length ls))) ((m.writes ≡ total w (l ∷ ls)) × Stands w ls older)
    (Choose (nat_lt m.number (suc (length ls))) ⊥ (Stands w (l ∷ ls) older))

-- the top level has no mark of its own
abbrev pub StandsBelow : Writes → List Level → List Mark → Type 0
StandsBelow w [] marks = ⊥
StandsBelow w (l ∷ ls) marks = Stands w ls marks

-- an open transaction holds the levels; where it is aborted the one on top is doomed
pub record IsNested (o : Transaction) (lowest : Writes) (levels : List Level) : Type 0 where
  pub base : o.base ≡ lowest
  pub now : o.now ≡ total lowest levels
  pub marks : StandsBelow lowest levels o.marks
  pub doomed : o.aborted ≡ true → IsDoomed levels

-- where no transaction is open the stack has one list, which is what is kept; else it has as many levels as the tracked
-- depth says, and they are what the transaction holds
abbrev pub Nested : Status → State → Stack → Type 0
Nested S (Idle w) k = k ≡ alone w
Nested S (Open o) k = HasDepth S (length k.levels) × IsNested o k.lowest k.levels
Nested S (Lost w) k = k ≡ alone w
