-- What the whole call answers.
use Rattle.std.specs.Prelude.{ℕ, ◌≡◌, ◌<◌, ◌≤◌, ◌⊎◌, ⊤, Bool, true, false, List, ◌++◌, decimal, slice_get, sum_by, Option, Some, None, Result, Ok, Err, codes, MatchResult}
use Rattle.std.specs.List.{AllByRecursion, list_any}
use Rattle.std.specs.Option.{option_map, option_and_then}
use Rattle.conn_model.specs.Obeyed.{Obeys}
use Rattle.conn_model.specs.States.{State, Writes, state_of, kept}
use Rattle.conn_model.specs.declared.item.Dialect.{Dialect}
use Rattle.conn_model.specs.declared.item.Item.{Item}
use Rattle.conn_cache.specs.Turns.{IsRising}
use Rattle.conn_reading.specs.Answered.{ServerLogs, answered, servers_opened, started}
use Rattle.conn_reading.specs.Asking.{Policy, policy_of}
use Rattle.conn_reading.specs.Folds.{refuses_transaction}
use Rattle.conn_reading.specs.Owning.{EachOwn, names_of}
use Rattle.conn_reading.specs.Prepared.{EachOnce}
use Rattle.conn_reading.specs.Sessions.{EachVerdict, EachStandsOver, EachClean, EntryPremises, PremisesLeft, EachNested, is_opened, fold_entries, unfolded}
use Rattle.conn_report.specs.declared.entry.Entry.{Entry}
use Rattle.conn_report.specs.declared.entry.Transcript.{Transcript}
use Rattle.conn_report.specs.Report.{report}
use Rattle.conn_report.specs.Summary.{summary}
use Rattle.conn_script.specs.Grammar.{script_of}
use Rattle.conn_script.specs.declared.command.Command.{Command}
use Rattle.conn_script.specs.declared.command.Script.{Script}
use Rattle.conn_script.specs.declared.command.SessionError.{SessionError}
use Rattle.conn_script.specs.declared.command.SessionError.TheVariants.{BadScript, OutOfMemory}
use Rattle.conn_drivers.specs.Establishing.{AreAt, url_fault}
use Rattle.conn_server.specs.Connected.{Connected, writes_by}
use Rattle.conn_server.specs.Ordered.{planned}
use Rattle.conn_session.specs.Accounts.{logs_of, servers_of}
use Rattle.conn_session.specs.Plays.{IsPlayed}
use Rattle.conn_session.specs.Steps.{IsCausedBy}
use Rattle.conn_session.specs.Worlds.{refusals}
use Rattle.conn_session.specs.declared.task.Task.{Task}
use Rattle.conn_session.specs.declared.task.Task.TheVariants.{Run, Gen}
use Rattle.script_generator.specs.Generator.{generated_script}

-- the logs of the servers that are back answer these entries to the script, and say how many servers were opened; each obeys
-- what the script's plan refuses of its server
pub record IsAnswered (script : Script) (k : Connected) (entries : List Entry) : Type 0 where
  pub entries_are : answered script (logs_of k.returned) ≡ Some entries
  pub opened : servers_opened script (logs_of k.returned) ≡ Some k.opened
  pub obeys : (n : ℕ) → n < k.opened
      → Obeys script.dialect (planned script.plan n) (logs_of k.returned n)

-- the log is lawful, and what is told of its server are the writes that it keeps
pub record TellsKept (d : Dialect) (log : List Item) (told : Option Writes) : Type 0 where
  pub state : State
  pub lawful : state_of d log ≡ Some state
  pub told_is : told ≡ Some (kept state)

-- of each server that was opened its log's kept writes are told
abbrev pub EachTold : Dialect → Connected → (ℕ → Option Writes) → Type 0
EachTold d k told = (n : ℕ) → n < k.opened → TellsKept d (logs_of k.returned n) (told n)

-- what is told of the server of a number
abbrev pub told_at : List (Option Writes) → ℕ → Option Writes
told_at servers n = option_and_then (λ (writes : Option Writes). writes) (slice_get servers n)

-- the writes that a log keeps, where it is lawful
abbrev pub kept_by : Dialect → List Item → Option Writes
kept_by d log = option_map kept (state_of d log)

-- under the premises of the fold a server keeps the fold of all its entries
abbrev pub FoldsOf : Dialect → Policy → ServerLogs → List Command → List Entry → ℕ → Type 0
FoldsOf d policy logs commands entries n =
    is_opened n entries ≡ true → EntryPremises d policy n (logs n) commands entries
    → kept_by d (logs n) ≡ Some (fold_entries n (logs n) commands entries (unfolded policy)).stack.lowest

-- these premises hold of each server that was opened and refused no text of a transaction, where what the dialect leaves of them does
abbrev pub HasPremises : Dialect → Policy → ServerLogs → List Command → List Entry → ℕ → Type 0
HasPremises d policy logs commands entries n = is_opened n entries ≡ true
    → list_any refuses_transaction (logs n) ≡ false → PremisesLeft d policy n (logs n) commands entries
    → EntryPremises d policy n (logs n) commands entries

-- the logs bear the entries out: each status up to its mark, each depth over its server, no open transaction but a test's where
-- `get` hands out; and
-- under the premises of the fold a server held, after each entry of its connection, the stack of the fold up to it
pub record AreBorneOutBy (d : Dialect) (policy : Policy) (logs : ServerLogs) (commands : List Command) (entries : List Entry) : Type 0 where
  pub verdicts : EachVerdict d logs entries
  pub depths : EachStandsOver d logs entries
  pub clean : EachClean entries
  pub nested : (n : ℕ) → EntryPremises d policy n (logs n) commands entries
      → EachNested d n (logs n) commands entries (unfolded policy)
  pub folds : (n : ℕ) → FoldsOf d policy logs commands entries n
  pub premises : (n : ℕ) → HasPremises d policy logs commands entries n

-- so do the logs of the servers that are back
abbrev pub AreBorneOut : Script → Connected → List Entry → Type 0
AreBorneOut script k entries =
    AreBorneOutBy script.dialect (policy_of script) (logs_of k.returned) script.commands entries

-- some bytes stand for the script
pub record IsParsed (script : Script) : Type 0 where
  pub bytes : List ℕ
  pub parses : script_of bytes ≡ Ok script

-- refusals in the entries were counted, by the connector or by the server that is back
abbrev pub AreCaused : Connected → Connected → List Entry → Type 0
AreCaused old k = AllByRecursion (IsCausedBy (λ n. sum_by (refusals n) k.returned) old.failures k.failures)

-- the statements in the logs are the commands' own: each call that a command makes is its own, the statement of a query is prepared
-- once for as long as its connection keeps statements, and the names that a connection gives rise
pub record HasOwnStatements (script : Script) (logs : ServerLogs) (entries : List Entry) : Type 0 where
  pub own : EachOwn (started script) logs script.commands
  pub once : EachOnce (started script) logs script.commands
  pub rising : (n : ℕ) → is_opened n entries ≡ true → IsRising 0 (names_of (logs n))

-- a session of the script may give these entries
abbrev pub IsScriptPlayed : Script → List Entry → Type 0
IsScriptPlayed script entries =
    IsPlayed (url_fault script.dialect script.url) (policy_of script) script.max_size script.commands entries

-- the commands of a script were run, and all servers are back; over an honest connector that was armed with the script's plan
-- the logs answer the entries
pub record RunsScript (honest : Bool) (script : Script) (old k : Connected) (entries : List Entry) : Type 0 where
  pub played : IsScriptPlayed script entries
  pub caused : AreCaused old k entries
  pub answered : honest ≡ true → old.attempts ≡ 0 → old.armed ≡ script.plan → IsAnswered script k entries
  pub kept : honest ≡ true → EachTold script.dialect k (λ n. writes_by true n k.returned)

-- a transcript of a script over the servers that were taken back: its commands gave the entries, and the servers kept the
-- writes; a refusal of a server or of the connector is in an entry only where it was counted; each attempt was at the script's
-- URL, where the connector tells its targets; an honest connector was armed with the script's plan, and its servers' logs answer
-- the entries to the script and bear them out, have the commands' own statements, and keep the writes that are told, none of them
-- untold
pub record Transcribes (honest tells : Bool) (script : Script) (old k : Connected) (t : Transcript) : Type 0 where
  pub entries : IsScriptPlayed script t.entries
  pub servers : t.servers ≡ servers_of tells k.opened k.returned
  pub caused : AreCaused old k t.entries
  pub aimed : AreAt script.dialect script.url old.targets → AreAt script.dialect script.url k.targets
  pub armed : honest ≡ true → k.armed ≡ script.plan
  pub answered : honest ≡ true → IsAnswered script k t.entries
  pub kept : honest ≡ true → EachTold script.dialect k (told_at t.servers)
  pub borne_out : honest ≡ true → AreBorneOut script k t.entries
  pub statements : honest ≡ true → HasOwnStatements script (logs_of k.returned) t.entries

-- a bad script runs nothing, and its bad line is told
pub record IsBad (line : ℕ) (old new : Connected) (error : SessionError) : Type 0 where
  pub error_is : (error ≡ BadScript line) ⊎ (error ≡ OutOfMemory)
  pub same : new ≡ old

-- a session of these bytes, which are a script or not
abbrev pub Sessions : Bool → Bool → Result Script ℕ → Connected → Connected → Result Transcript SessionError → Type 0
Sessions honest tells (Ok script) old new result = MatchResult result (Transcribes honest tells script old new) (λ e. e ≡ OutOfMemory)
Sessions honest tells (Err line) old new result = MatchResult result (λ t. ⊥) (IsBad line old new)

-- the line for bytes that are no script
abbrev pub bad_line : ℕ → List ℕ
bad_line line = codes "bad line " ++ decimal line ++ codes "\n"

-- what a task writes of a session: `run` its report, `gen` its summary
abbrev pub task_text : Task → Transcript → List ℕ
task_text Run t = report t.entries t.servers
task_text (Gen seed count) t = summary t.entries t.servers

-- status 0 and the task's text of a script's transcript, or status 1 and the bad line with nothing run
abbrev pub Answers : Bool → Bool → Task → Result Script ℕ → Connected → Connected → ℕ → List ℕ → Type 0
Answers honest tells task (Ok script) old new status text = (status ≡ 0) × ((t : Transcript) × Transcribes honest tells script old new t × (text ≡ task_text task t))
Answers honest tells task (Err line) old new status text = (status ≡ 1) × (new ≡ old) × (text ≡ bad_line line)

-- a text answers these bytes, where they are told, and else some bytes
abbrev pub AnswersTold : Bool → Bool → Task → Option (List ℕ) → Connected → Connected → ℕ → List ℕ → Type 0
AnswersTold honest tells task None old new status text = (bytes : List ℕ) × Answers honest tells task (script_of bytes) old new status text
AnswersTold honest tells task (Some bytes) old new status text = Answers honest tells task (script_of bytes) old new status text

-- the bytes that a task is about: those that the source had left, or those that are generated
abbrev pub task_bytes : Task → Option (List ℕ) → Option (List ℕ)
task_bytes Run left = left
task_bytes (Gen seed count) left = Some (generated_script seed count)

-- a text answers what the task is about
abbrev pub AnswersTask : Bool → Bool → Task → Option (List ℕ) → Connected → Connected → ℕ → List ℕ → Type 0
AnswersTask honest tells task left old new status text = AnswersTold honest tells task (task_bytes task left) old new status text

-- where nothing failed, a script is answered 0 and other bytes 1, unless memory ran out; bytes that aren't told, one of these
abbrev pub IsComplete : Option (List ℕ) → ℕ → Type 0
IsComplete None status = (status ≡ 4) ⊎ (status ≤ 1)
IsComplete (Some bytes) status = (status ≡ 4) ⊎ MatchResult (script_of bytes) (λ _. status ≡ 0) (λ _. status ≡ 1)

-- so is a task, and what is generated is a script
abbrev pub IsCompleteTask : Task → Option (List ℕ) → ℕ → Type 0
IsCompleteTask Run left status = IsComplete left status
IsCompleteTask (Gen seed count) left status = (status ≡ 4) ⊎ (status ≡ 0)

-- the source is read by `run` alone
abbrev pub IsUnread : Task → Option (List ℕ) → Option (List ℕ) → Type 0
IsUnread Run before left = ⊤
IsUnread (Gen seed count) before left = left ≡ before
