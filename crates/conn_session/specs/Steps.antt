-- What the commands of a session do to it and to its connector.
use Rattle.std.specs.Prelude.{ℕ, ◌≡◌, ◌<◌, ◌≤◌, ◌⊎◌, ⊤, Bool, true, List, Option, Some, None, Result, Ok, Err, IfOk, sum_by}
use Rattle.std.specs.List.{AllByRecursion}
use Rattle.std.specs.declared.alloc.AllocError.{AllocError}
use Rattle.conn_result.specs.Causes.{Rose}
use Rattle.conn_result.specs.declared.error.ConnectionError.{ConnectionError}
use Rattle.conn_model.specs.Seen.{Seen}
use Rattle.conn_manager.specs.Manages.{IsRefusal}
use Rattle.conn_reading.specs.Answered.{ServerLogs, Progress, Taken, reads, reads_by_deed, reads_on}
use Rattle.conn_reading.specs.Seats.{Seat, Context, at_number, entry_on, entry_without}
use Rattle.conn_reading.specs.declared.blocks.Block.{Block}
use Rattle.conn_reading.specs.declared.blocks.BlockState.{BlockState}
use Rattle.conn_reading.specs.declared.blocks.BlockState.TheVariants.{Refused}
use Rattle.conn_reading.specs.declared.deed.Deed.{Deed}
use Rattle.conn_report.specs.declared.entry.Entry.{Entry}
use Rattle.conn_report.specs.declared.entry.Reply.{Reply}
use Rattle.conn_script.specs.Requests.{verb_word}
use Rattle.conn_script.specs.declared.command.Command.{Command}
use Rattle.conn_script.specs.declared.command.Word.{Word}
use Rattle.conn_script.specs.declared.request.Request.{Request}
use Rattle.conn_script.specs.declared.request.Verb.{Verb}
use Rattle.conn_drivers.specs.Establishing.{AreAt, url_fault}
use Rattle.conn_server.specs.Connected.{Connected}
use Rattle.conn_session.specs.Known.{Has, IsKnown, Grows, GrowsAll}
use Rattle.conn_session.specs.Worlds.{World, Invariant, context_of, sum_all, refusals}
use Rattle.conn_session.specs.Plays.{Plays, PlaysOn, PlaysByDeed, PlaysAll}
use Rattle.conn_session.specs.Responses.{IsRefused, IsBlocks, IsUnopened}

-- no count of refusals fell
pub record IsLater (old new : World) : Type 0 where
  pub later : old.connector.failures ≤ new.connector.failures
  pub refusals_later : (n : ℕ) → sum_all (refusals n) old ≤ sum_all (refusals n) new

-- an entry has a server's refusal only where its connection's server counted one, and says that none was opened only
-- where the connector's count rose
pub record IsCausedBy (servers : ℕ → ℕ) (before now : ℕ) (entry : Entry) : Type 0 where
  pub refused : IsRefused entry.reply → (n : ℕ) × (entry.connection ≡ Some n) × (0 < servers n)
  pub unopened : IsUnopened entry.reply → Rose before now

-- the same from one world to another
abbrev pub IsCausedIn : World → World → Entry → Type 0
IsCausedIn old new = IsCausedBy (λ n. sum_all (refusals n) new) old.connector.failures new.connector.failures

-- a refusal by which a block stands was counted by its connection's server
abbrev pub IsCausedState : (ℕ → ℕ) → ℕ → BlockState → Type 0
IsCausedState servers n (Refused e) = IsRefusal (Err e) → 0 < servers n
IsCausedState servers n _ = ⊤

-- so is that of each open block
abbrev pub AreBlocksCaused : World → Type 0
AreBlocksCaused w = AllByRecursion (λ (b : Block). IsCausedState (λ n. sum_all (refusals n) w) b.connection b.state) w.pool.blocks

-- what no command changes: how connections are opened, how many slots there are, the queries, what `get` asks, the plan, and that
-- attempts are at the URL
pub record KeepsOpening (old new : World) : Type 0 where
  pub dialect : new.pool.dialect ≡ old.pool.dialect
  pub url : new.pool.url ≡ old.pool.url
  pub size : new.pool.size ≡ old.pool.size
  pub queries : new.pool.queries ≡ old.pool.queries
  pub policy : new.pool.policy ≡ old.pool.policy
  pub plan : new.connector.armed ≡ old.connector.armed
  pub aims : AreAt old.pool.dialect old.pool.url old.connector.targets → AreAt old.pool.dialect old.pool.url new.connector.targets

-- what a command leaves, also where it ends for want of memory
pub record KeepsAll (old new : World) : Type 0 where
  pub holds : Invariant new
  pub counts : IsLater old new
  pub opening : KeepsOpening old new

-- a command, by what it may give and how it is read: no server is lost; the entry is one that it may give, each refusal in it
-- was counted, and over honest servers it is read from what their logs grew by
pub record StepsBy (plays : Context → Entry → Context → Type 0) (reading : Progress → ServerLogs → Option Taken) (honest : Bool) (old new : World) (result : Result Entry AllocError) : Type 0 where
  pub keeps : KeepsAll old new
  pub plays_entry : IfOk result (λ entry. plays (context_of old) entry (context_of new))
  pub caused : AreBlocksCaused old → IfOk result (λ entry. IsCausedIn old new entry × AreBlocksCaused new)
  pub grows : honest ≡ true → IfOk result (Grows reading old new)

-- the fault of the URL at which connections are opened, where it has one
abbrev pub fault_of : World → Option ConnectionError
fault_of w = url_fault w.pool.dialect w.pool.url

-- one command
abbrev pub Steps : Bool → ℕ → Request → World → World → Result Entry AllocError → Type 0
Steps honest line request old new result = StepsBy (Plays (fault_of old) old.pool.policy line request) (λ p logs. reads p logs line request) honest old new result

-- the entry of a deed on connection n: a refusal in it was counted, or is that of the block which closes
pub record IsCausedOn (n : ℕ) (deed : Deed) (new : World) (entry : Entry) : Type 0 where
  pub on : entry.connection ≡ Some n
  pub refused : IsRefused entry.reply → (0 < sum_all (refusals n) new) ⊎ IsBlocks deed entry.reply
  pub opened : IsUnopened entry.reply → ⊥

-- a deed on the connection of a number, whatever blocks are open
pub record DoesOn (honest : Bool) (line n : ℕ) (word : Word) (deed : Deed) (old new : World) (result : Result Entry AllocError) : Type 0 where
  pub keeps : KeepsAll old new
  pub blocks : new.pool.blocks ≡ old.pool.blocks
  pub plays_entry : IfOk result (λ entry. PlaysOn line word deed n (context_of old) entry (context_of new) (at_number n (context_of old).out))
  pub caused : IfOk result (IsCausedOn n deed new)
  pub grows : honest ≡ true → IfOk result (Grows (λ p logs. reads_on p logs line word deed n (at_number n p.context.out)) old new)

-- a command on connection n by its deed, or skipped, before its reply tells the blocks
pub record StepsDeed (honest : Bool) (line n : ℕ) (verb : Verb) (old new : World) (result : Result Entry AllocError) : Type 0 where
  pub steps : StepsBy (PlaysByDeed line n verb) (reads_by_deed line n verb) honest old new result
  pub blocks : new.pool.blocks ≡ old.pool.blocks
  pub on : IfOk result (λ entry. entry.connection ≡ Some n)

-- ---- a command on connection n by its reply

-- its entry, which shows the connection where it is out
abbrev pub entry_at : ℕ → Word → ℕ → Reply → Option Seat → Entry
entry_at line word n reply None = entry_without line word (Some n) reply
entry_at line word n reply (Some seat) = entry_on line word reply seat

-- the same where there is a reply, by the connections after it
abbrev pub entered : ℕ → Word → ℕ → World → Result Reply AllocError → Result Entry AllocError
entered line word n w (Ok reply) = Ok (entry_at line word n reply (at_number n (context_of w).out))
entered line word n w (Err e) = Err e

-- a reply to a deed, whatever command asks it
abbrev pub AnswersOn : Bool → ℕ → Deed → World → World → Result Reply AllocError → Type 0
AnswersOn honest n deed old new result = (line : ℕ) → (word : Word) → DoesOn honest line n word deed old new (entered line word n new result)

-- a reply to a command, in whatever line it stands, before it tells the blocks
abbrev pub AnswersVerb : Bool → ℕ → Verb → World → World → Result Reply AllocError → Type 0
AnswersVerb honest n verb old new result = (line : ℕ) → StepsDeed honest line n verb old new (entered line (verb_word verb) n new result)

-- ---- all commands

-- some commands, with their entries in order
pub record RunsAll (honest : Bool) (commands : List Command) (old new : World) (entries : List Entry) : Type 0 where
  pub plays_entries : PlaysAll (fault_of old) old.pool.policy (context_of old) commands entries (context_of new)
  pub caused : AreBlocksCaused old → AllByRecursion (IsCausedIn old new) entries × AreBlocksCaused new
  pub grows : honest ≡ true → GrowsAll old new commands entries

-- every server is with the connector, as it was
pub record Closes (old : World) (new : Connected) : Type 0 where
  pub opened : new.opened ≡ old.connector.opened
  pub counts : new.failures ≡ old.connector.failures
  pub plan : new.armed ≡ old.connector.armed
  pub targets : new.targets ≡ old.connector.targets
  pub totals : (f : Seen → ℕ) → sum_by f new.returned ≡ sum_all f old
  pub known : (logs : ServerLogs) → IsKnown logs old → AllByRecursion (Has old.pool.dialect old.connector.armed logs) new.returned
