-- What the entries of a session say of its servers, by their finished logs.
use Rattle.std.specs.Prelude.{◌≡◌, ℕ, ◌-◌, ◌==◌, Bool, true, false, ⊤, List, [], ◌∷◌, take, drop, Option, Some, None, Ok, Err, is_some, if◌then◌else◌}
use Rattle.std.specs.List.{list_any}
use Rattle.conn_result.specs.declared.pool.Error.{Error as PoolError}
use Rattle.conn_result.specs.declared.pool.Error.TheVariants as pooling
use Rattle.conn_model.specs.Classes.{class}
use Rattle.conn_model.specs.States.{Idle}
use Rattle.conn_model.specs.declared.item.Dialect.{Dialect}
use Rattle.conn_model.specs.declared.item.Dialect.TheVariants.{Pg, Mysql, Sqlite}
use Rattle.conn_model.specs.declared.item.Item.{Item}
use Rattle.conn_manager.specs.Statuses.{Status, is_broken}
use Rattle.conn_report.specs.declared.entry.Entry.{Entry}
use Rattle.conn_report.specs.declared.entry.Reply.{Reply}
use Rattle.conn_report.specs.declared.entry.Reply.TheVariants as replies
use Rattle.conn_script.specs.Requests.{request_of}
use Rattle.conn_script.specs.declared.command.Command.{Command}
use Rattle.conn_script.specs.declared.command.Script.{Script}
use Rattle.conn_script.specs.declared.command.Word.{Word}
use Rattle.conn_script.specs.declared.command.Word.TheVariants as words
use Rattle.conn_script.specs.declared.query.Declared.{Declared}
use Rattle.conn_script.specs.declared.request.Request.{Request}
use Rattle.conn_script.specs.declared.request.Request.TheVariants.{Get, Put, On}
use Rattle.conn_script.specs.declared.request.Verb.{Verb}
use Rattle.conn_script.specs.declared.request.Verb.TheVariants as verbs
use Rattle.conn_reading.specs.Answered.{ServerLogs}
use Rattle.conn_reading.specs.Asking.{Policy, get_deed}
use Rattle.conn_reading.specs.Blocks.{request_deed, request_blocks}
use Rattle.conn_reading.specs.Folds.{Stack, alone, after_items, Kind, Begins, Commits, Rolls, Closes, Sends, after_reply, KeepsLive, refuses_transaction, SetsInOpen, NestedMeaning}
use Rattle.conn_reading.specs.Histories.{Step, step_items, StartsSetUp, IsHistory}
use Rattle.conn_reading.specs.Verdicts.{is_plain, Verdict, StandsOver}
use Rattle.conn_reading.specs.declared.blocks.Block.{Block}
use Rattle.conn_reading.specs.declared.deed.Deed.{Deed}
use Rattle.conn_reading.specs.declared.deed.Deed.TheVariants as deeds

-- it holds of each
abbrev pub Each : {A : Type 0} → (A → Type 0) → List A → Type 0
Each P [] = ⊤
Each P (x ∷ xs) = P x × Each P xs

-- ---- the texts of a script

-- a text that is sent asks nothing of a transaction
abbrev pub SendsPlain : Verb → Type 0
SendsPlain (verbs.Batch text) = is_plain (class text) ≡ true
SendsPlain _ = ⊤

-- so is that of a command, where it has one
abbrev pub AsksPlain : Request → Type 0
AsksPlain Get = ⊤
AsksPlain (Put n) = ⊤
AsksPlain (On n verb) = SendsPlain verb

-- and every text of the commands
abbrev pub AllPlain : List Command → Type 0
AllPlain commands = Each (λ (c : Command). AsksPlain (request_of c.act)) commands

-- and every text of its queries
abbrev pub QueriesPlain : List Declared → Type 0
QueriesPlain queries = Each (λ (q : Declared). is_plain (class q.text) ≡ true) queries

-- so a script sends plain texts
abbrev pub ScriptPlain : Script → Type 0
ScriptPlain script = AllPlain script.commands × QueriesPlain script.queries

-- ---- the log up to the mark

-- a status comes with a connection and a mark, and is so to that server's log up to the mark
abbrev pub IsMarked : (Status → List Item → Type 0) → ServerLogs → Option ℕ → Option Status → Option ℕ → Type 0
IsMarked P logs connection None mark = ⊤
IsMarked P logs None (Some S) mark = ⊥
IsMarked P logs (Some n) (Some S) None = ⊥
IsMarked P logs (Some n) (Some S) (Some mark) = P S (take mark (logs n))

-- each status is so to its server's log up to its mark
abbrev pub EachMarked : (Status → List Item → Type 0) → ServerLogs → List Entry → Type 0
EachMarked P logs entries = Each (λ (e : Entry). IsMarked P logs e.connection e.status e.mark) entries

-- the log is that of a history of a connection, which begins with its setup and ends with the status
pub record IsRecorded (d : Dialect) (S : Status) (log : List Item) : Type 0 where
  pub steps : List Step
  pub sets_up : StartsSetUp steps
  pub is_log : log ≡ step_items steps
  pub is_history : IsHistory d steps S

-- each status is that of a history
abbrev pub EachRecorded : Dialect → ServerLogs → List Entry → Type 0
EachRecorded d logs entries = EachMarked (IsRecorded d) logs entries

-- each status is borne out
abbrev pub EachVerdict : Dialect → ServerLogs → List Entry → Type 0
EachVerdict d logs entries = EachMarked (Verdict d) logs entries

-- each depth that is tracked stands over its server
abbrev pub EachStandsOver : Dialect → ServerLogs → List Entry → Type 0
EachStandsOver d logs entries = EachMarked (StandsOver d) logs entries

-- ---- connections that are handed out

-- a connection that `get` hands out is valid, and without a depth or in a test's transaction
abbrev pub IsClean : Word → Reply → Option Status → Type 0
IsClean words.Get replies.Ok (Some S) = is_broken S ≡ false
IsClean words.Get replies.Ok None = ⊥
IsClean _ _ status = ⊤

-- so is each one
abbrev pub EachClean : List Entry → Type 0
EachClean entries = Each (λ (e : Entry). IsClean e.word e.reply e.status) entries

-- ---- the fold over the entries of a connection

-- the mark of an entry, where it is one of connection n
abbrev pub mark_of : ℕ → Option ℕ → Option ℕ → Option ℕ
mark_of n None mark = None
mark_of n (Some c) mark = if c == n then mark else None

-- an entry with a mark is one of connection n
abbrev pub is_opened : ℕ → List Entry → Bool
is_opened n entries = list_any (λ (e : Entry). is_some (mark_of n e.connection e.mark)) entries

-- where the fold stands: how many items were read, the stack, the open blocks, what `get` asks, and whether an entry showed the
-- connection
pub record Folded : Type 0 where
  pub mark : ℕ
  pub stack : Stack
  pub blocks : List Block
  pub policy : Policy
  pub begun : Bool

-- nothing was read
abbrev pub unfolded : Policy → Folded
unfolded policy = record { mark = 0; stack = alone []; blocks = []; policy = policy; begun = false }

-- what a deed is to the stack
abbrev pub deed_kind : Deed → Kind
deed_kind (deeds.Batch text) = Sends
deed_kind deeds.Begin = Begins
deed_kind (deeds.BeginBy form) = Begins
deed_kind deeds.Commit = Commits
deed_kind deeds.Rollback = Rolls
deed_kind deeds.TestBegin = Begins
deed_kind (deeds.Close kind answer) = Closes kind
deed_kind (deeds.Query call n) = Sends
deed_kind (deeds.CacheSize size) = Sends
deed_kind deeds.Ping = Sends

-- by why no connection was handed out: one with a transaction left open had begun it
abbrev pub after_refusal : Kind → PoolError → Stack → Stack
after_refusal kind (pooling.QueryError e n) k = after_reply kind (Err e) k
after_refusal kind (pooling.LeftOpen n) k = after_reply kind (Ok tt) k
after_refusal kind _ k = k

-- by the reply to it; where its connection wasn't out nothing was done
abbrev pub after_kind : Kind → Reply → Stack → Stack
after_kind kind replies.Ok k = after_reply kind (Ok tt) k
after_kind kind (replies.Error e) k = after_reply kind (Err e) k
after_kind kind (replies.Pool e) k = after_refusal kind e k
after_kind kind _ k = k

-- a command without a deed does nothing
abbrev pub after_deed : Option Deed → Reply → Stack → Stack
after_deed None reply k = k
after_deed (Some deed) reply k = after_kind (deed_kind deed) reply k

-- the stack after the items from one mark to another
abbrev pub between : List Item → Folded → ℕ → Stack
between log f mark = after_items (take (mark - f.mark) (drop f.mark log)) f.stack

-- first the items up to the mark, then the reply
abbrev pub after_mark : List Item → Option Deed → Reply → Folded → Option ℕ → Folded
after_mark log deed reply f None = f
after_mark log deed reply f (Some mark) = record f { mark = mark; stack = after_deed deed reply (between log f mark); begun = true }

-- what a command does, by where the fold stands
abbrev pub deed_here : Folded → Request → Option Deed
deed_here f request = request_deed (get_deed f.policy f.begun) f.blocks request

-- after the entry of a command on any connection
abbrev pub after_entry : ℕ → List Item → Request → Entry → Folded → Folded
after_entry n log request e f = record (after_mark log (deed_here f request) e.reply f (mark_of n e.connection e.mark)) { blocks = request_blocks request e.reply f.blocks }

-- Fold: where it stands after the entries of connection n, with this log; its result is the lowest list, since all above it
-- is dropped where the connection is closed or the script ends
abbrev pub fold_entries : ℕ → List Item → List Command → List Entry → Folded → Folded
fold_entries n log (c ∷ cs) (e ∷ es) f = fold_entries n log cs es (after_entry n log (request_of c.act) e f)
fold_entries n log _ _ f = f

-- a doomed level isn't kept by a reply
abbrev pub KindLive : Kind → Reply → Stack → Type 0
KindLive kind replies.Ok k = KeepsLive kind (Ok tt) k
KindLive kind _ k = ⊤

-- nor by a command
abbrev pub DeedLive : Option Deed → Reply → Stack → Type 0
DeedLive None reply k = ⊤
DeedLive (Some deed) reply k = KindLive (deed_kind deed) reply k

-- that is so of an entry
abbrev pub MarkLive : List Item → Option Deed → Reply → Folded → Option ℕ → Type 0
MarkLive log deed reply f None = ⊤
MarkLive log deed reply f (Some mark) = DeedLive deed reply (between log f mark)

-- of the entry of a command on any connection
abbrev pub EntryLive : ℕ → List Item → Request → Entry → Folded → Type 0
EntryLive n log request e f = MarkLive log (deed_here f request) e.reply f (mark_of n e.connection e.mark)

-- and of all entries, one after another
abbrev pub EntriesLive : ℕ → List Item → List Command → List Entry → Folded → Type 0
EntriesLive n log (c ∷ cs) (e ∷ es) f = EntryLive n log (request_of c.act) e f × EntriesLive n log cs es (after_entry n log (request_of c.act) e f)
EntriesLive n log _ _ f = ⊤

-- no text of a transaction is refused, no savepoint is set in an idle server, and no level in which the transaction was
-- aborted is kept
pub record EntryPremises (d : Dialect) (policy : Policy) (n : ℕ) (log : List Item) (commands : List Command) (entries : List Entry) : Type 0 where
  pub none_refused : list_any refuses_transaction log ≡ false
  pub none_in_idle : SetsInOpen d (Idle []) log
  pub live : EntriesLive n log commands entries (unfolded policy)

-- what a dialect leaves of them where the first holds: on PostgreSQL a refusal may abort, on MySQL an idle server may accept a
-- savepoint
abbrev pub PremisesLeft : Dialect → Policy → ℕ → List Item → List Command → List Entry → Type 0
PremisesLeft Pg policy n log commands entries = EntriesLive n log commands entries (unfolded policy)
PremisesLeft Mysql policy n log commands entries = SetsInOpen Mysql (Idle []) log
PremisesLeft Sqlite policy n log commands entries = ⊤

-- ---- the fold after each entry

-- a status that comes with a mark: the server, by its log up to the mark, holds the stack
abbrev pub MarkNested : Dialect → List Item → Option Status → Option ℕ → Stack → Type 0
MarkNested d log None mark k = ⊤
MarkNested d log (Some S) None k = ⊤
MarkNested d log (Some S) (Some mark) k = NestedMeaning d S (take mark log) k

-- after each entry of connection n its server holds the stack of the fold up to it
abbrev pub EachNested : Dialect → ℕ → List Item → List Command → List Entry → Folded → Type 0
EachNested d n log (c ∷ cs) (e ∷ es) f =
    let after = after_entry n log (request_of c.act) e f in
    MarkNested d log e.status (mark_of n e.connection e.mark) after.stack × EachNested d n log cs es after
EachNested d n log _ _ f = ⊤
