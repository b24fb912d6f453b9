-- Over honest servers: their logs are known, and what a command adds to them is read for it.
use Rattle.std.specs.Prelude.{ℕ, ◌≡◌, ◌≤◌, ⊤, List, [], ◌++◌, Option, Some, None}
use Rattle.std.specs.List.{AllByRecursion}
use Rattle.conn_model.specs.Armed.{armed_of}
use Rattle.conn_model.specs.Seen.{Seen, IsHonest}
use Rattle.conn_model.specs.declared.item.Dialect.{Dialect}
use Rattle.conn_model.specs.declared.plan.PlanLine.{PlanLine}
use Rattle.conn_reading.specs.Answered.{ServerLogs, Progress, Taken}
use Rattle.conn_reading.specs.Readings.{ReadsEntry, ReadsAll}
use Rattle.conn_report.specs.declared.entry.Entry.{Entry}
use Rattle.conn_script.specs.declared.command.Command.{Command}
use Rattle.conn_server.specs.Ordered.{planned}
use Rattle.conn_manager.specs.Views.{View}
use Rattle.conn_session.specs.Worlds.{World, context_of}

-- an honest server of this dialect, armed with the plan's rows, with the log of its number and the orders that the plan has for it
pub record Has (d : Dialect) (plan : List PlanLine) (logs : ServerLogs) (s : Seen) : Type 0 where
  pub honest : IsHonest s
  pub dialect_is : s.dialect ≡ d
  pub armed_is : s.armed ≡ armed_of plan
  pub log_is : s.log ≡ Some (logs s.number)
  pub orders : (item : ℕ) → s.orders item ≡ planned plan s.number item

-- it holds of the server of a connection, where there is one
abbrev pub OfServer : (Seen → Type 0) → Option View → Type 0
OfServer P None = ⊤
OfServer P (Some v) = P v.seen

-- it holds of every server, wherever it is
pub record Everywhere (P : Seen → Type 0) (w : World) : Type 0 where
  pub slots : AllByRecursion (OfServer P) w.pool.slots
  pub out : AllByRecursion (OfServer P) w.pool.out
  pub returned : AllByRecursion P w.connector.returned

-- each server has its log, and no other number has items
pub record IsKnown (logs : ServerLogs) (w : World) : Type 0 where
  pub servers : Everywhere (Has w.pool.dialect w.connector.armed logs) w
  pub fresh : (n : ℕ) → w.connector.opened ≤ n → logs n ≡ []

-- where the reading of the logs stands
abbrev pub progress : World → Progress
progress w = record { context = context_of w; attempts = w.connector.attempts; plan = w.connector.armed; armed = armed_of w.connector.armed; queries = w.pool.queries; dialect = w.pool.dialect; url = w.pool.url; policy = w.pool.policy }

-- the logs with these items more
abbrev pub with_more : ServerLogs → ServerLogs → ServerLogs
with_more logs items n = logs n ++ items n

-- the logs grew by some items, which are read for the entry
abbrev pub Grows : (Progress → ServerLogs → Option Taken) → World → World → Entry → Type 0
Grows reading old new entry = (logs : ServerLogs) → IsKnown logs old
    → (items : ServerLogs) × IsKnown (with_more logs items) new × ReadsEntry reading (progress old) items entry (progress new)

-- the logs grew by some items, which are read for the entries of some commands
abbrev pub GrowsAll : World → World → List Command → List Entry → Type 0
GrowsAll old new commands entries = (logs : ServerLogs) → IsKnown logs old
    → (items : ServerLogs) × IsKnown (with_more logs items) new × ReadsAll (progress old) items commands entries (progress new)
