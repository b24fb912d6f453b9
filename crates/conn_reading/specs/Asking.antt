-- What the commands of a session ask of a connection.
use Rattle.std.specs.Prelude.{ℕ, ◌==◌, Bool, true, false, List, [], ◌∷◌, map, Option, Some, None, Result, Ok, Err, if◌then◌else◌}
use Rattle.conn_result.specs.declared.error.Error.{Error}
use Rattle.conn_result.specs.declared.error.Error.TheVariants.{NotFound}
use Rattle.conn_result.specs.Optional.{optional}
use Rattle.conn_model.specs.Armed.{Values}
use Rattle.conn_model.specs.Beginnings.{form_text}
use Rattle.conn_model.specs.Process.{Process, Stop, map_process}
use Rattle.conn_model.specs.declared.item.Dialect.{Dialect}
use Rattle.conn_model.specs.declared.value.Bind.{Bind}
use Rattle.conn_model.specs.Caches.{Known}
use Rattle.conn_cache.specs.QueryProcesses.{Asked, execute_process, ping_process, resized}
use Rattle.conn_cache.specs.LoadProcesses.{load_process, rows_heard}
use Rattle.conn_cache.specs.QueryViews.{QueryView}
use Rattle.conn_drivers.specs.Loaded.{made_of}
use Rattle.conn_manager.specs.Manages.{Done, done, Reply as Answer, send_process, begin_process, begin_sql_process, begin_test_process, commit_process, rollback_process}
use Rattle.conn_manager.specs.Statuses.{Status}
use Rattle.conn_manager.specs.Transactions.{form_errors, includes}
use Rattle.conn_manager.specs.declared.rollback_errors.RollbackErrors.{RollbackErrors}
use Rattle.conn_manager.specs.declared.rollback_errors.RollbackErrors.TheVariants.{AllButBroken}
use Rattle.conn_report.specs.declared.entry.Reply.{Reply}
use Rattle.conn_report.specs.declared.entry.Reply.TheVariants as replies
use Rattle.conn_rows.specs.Lists.{first_answer, list_answer}
use Rattle.conn_script.specs.declared.command.BlockKind.{BlockKind}
use Rattle.conn_script.specs.declared.command.BlockKind.TheVariants.{Plain, Test, Form}
use Rattle.conn_script.specs.declared.command.Script.{Script}
use Rattle.conn_script.specs.declared.command.Customizer.{Customizer}
use Rattle.conn_script.specs.declared.command.Customizer.TheVariants.{Nop}
use Rattle.conn_script.specs.declared.command.Customizer.TheVariants as customizers
use Rattle.conn_script.specs.declared.query.Declared.{Declared}
use Rattle.conn_script.specs.declared.command.QueryCall.{QueryCall}
use Rattle.conn_script.specs.declared.command.QueryCall.TheVariants.{Exec, Load, Each, One, Optional}
use Rattle.conn_script.specs.declared.query.Safety.{Safety}
use Rattle.conn_script.specs.declared.query.Safety.TheVariants.{Safe, Unsafe, NoChange}
use Rattle.conn_reading.specs.RowShapes.{RowShape, shape_reads}
use Rattle.conn_reading.specs.declared.deed.Deed.{Deed}
use Rattle.conn_reading.specs.declared.deed.Deed.TheVariants as deeds

-- ---- how a block closes

-- after the error of a block: that error, or one of these of the rollback in its place
abbrev pub rollback_answer : RollbackErrors → Error → Answer → Answer
rollback_answer errors e (Ok u) = Err e
rollback_answer errors e (Err r) = if includes errors r then Err r else Err e

-- another answer, with the status that is left
abbrev pub with_answer : (Answer → Answer) → Done → Done
with_answer f a = done (f a.reply) a.status

-- a transaction whose closure gave this answer: it is committed where that is Ok, and else rolled back
abbrev pub keep_process : RollbackErrors → Answer → Dialect → Status → Process Done
keep_process errors (Ok u) d s = commit_process d s
keep_process errors (Err e) d s = map_process (with_answer (rollback_answer errors e)) (rollback_process d s)

-- the end of a block with this answer; a test's is rolled back whatever it gave, and has that answer
abbrev pub close_process : BlockKind → Answer → Dialect → Status → Process Done
close_process Plain answer d s = keep_process AllButBroken answer d s
close_process (Form form) answer d s = keep_process (form_errors form) answer d s
close_process Test answer d s = map_process (with_answer (λ _. answer)) (rollback_process d s)

-- ---- what a deed asks

-- what a command replies, and what it leaves of its connection
pub record Outcome : Type 0 where
  pub reply : Reply
  pub status : Status
  pub cache : Known

-- a reply with what is left
abbrev pub outcome : Reply → Status → Known → Outcome
outcome r s c = record { reply = r; status = s; cache = c }

-- the reply that a call's answer stands for
abbrev pub reply_as : Answer → Reply
reply_as (Ok u) = replies.Ok
reply_as (Err e) = replies.Error e

-- the outcome of a call of the manager, or of a text, which leaves the cache
abbrev pub told_as : Known → Done → Outcome
told_as c a = outcome (reply_as a.reply) a.status c

-- the reply that the answer to a query stands for
abbrev pub reply_made : {A : Type 0} → (A → Reply) → Result A Error → Reply
reply_made made (Ok x) = made x
reply_made made (Err e) = replies.Error e

-- the outcome of a query
abbrev pub asked_as : {A : Type 0} → (A → Reply) → Asked A → Outcome
asked_as made a = outcome (reply_made made a.reply) a.status a.cache

-- ---- the queries of a script

-- its statement may be kept
abbrev pub is_safe : Safety → Bool
is_safe Safe = true
is_safe Unsafe = false
is_safe NoChange = false

-- it has anything to do
abbrev pub has_changes : Safety → Bool
has_changes Safe = true
has_changes Unsafe = true
has_changes NoChange = false

-- what a query of a script is to a connection
abbrev pub view_of : Declared → QueryView
view_of q = record { sql = q.text; types = map (λ (b : Bind). b.kind) q.binds; binds = q.binds; is_safe = is_safe q.safety; has_changes = has_changes q.safety; id = q.id }

-- the first query of this number
abbrev pub find_query : ℕ → List Declared → Option Declared
find_query n [] = None
find_query n (q ∷ qs) = if q.number == n then Some q else find_query n qs

-- the reply to a query all of whose rows are loaded
abbrev pub list_reply : RowShape → Result (List Values) Error → Reply
list_reply shape rows = reply_made replies.Rows (made_of (list_answer (shape_reads shape)) rows)

-- what the first row is, or an error
abbrev pub first_of : RowShape → Result (List Values) Error → Result Values Error
first_of shape rows = made_of (first_answer (shape_reads shape)) rows

-- the reply to a query whose first row is to be there
abbrev pub one_reply : RowShape → Result (List Values) Error → Reply
one_reply shape rows = reply_made replies.OneRow (first_of shape rows)

-- a row, or that there is none
abbrev pub row_reply : Option Values → Reply
row_reply None = replies.NoRow
row_reply (Some row) = replies.OneRow row

-- the reply to a query whose first row may be missing
abbrev pub optional_reply : RowShape → Result (List Values) Error → Reply
optional_reply shape rows = reply_made row_reply (optional (first_of shape rows))

-- the outcome of a query whose rows are loaded
abbrev pub loaded_as : (Result (List Values) Error → Reply) → Asked (List Values) → Outcome
loaded_as reply a = outcome (reply a.reply) a.status a.cache

-- a query whose rows are loaded
abbrev pub rows_process : (Result (List Values) Error → Reply) → Dialect → QueryView → Status → Known → Process Outcome
rows_process reply d q s c = map_process (loaded_as reply) (load_process rows_heard d q s c)

-- what is made of a query whose rows have this shape
abbrev pub query_call_process : Dialect → QueryCall → RowShape → QueryView → Status → Known → Process Outcome
query_call_process d Exec shape q s c = map_process (asked_as replies.Count) (execute_process d q s c)
query_call_process d Load shape q s c = rows_process (list_reply shape) d q s c
query_call_process d Each shape q s c = rows_process (list_reply shape) d q s c
query_call_process d One shape q s c = rows_process (one_reply shape) d q s c
query_call_process d Optional shape q s c = rows_process (optional_reply shape) d q s c

-- the same of one that a script has, as it has each that its commands name
abbrev pub declared_process : Dialect → QueryCall → Option Declared → Status → Known → Process Outcome
declared_process d call None s c = Stop (outcome (replies.Error NotFound) s c)
declared_process d call (Some q) s c = query_call_process d call q.shape (view_of q) s c

-- ---- all deeds

-- what a deed asks of the connection's server, where the script has these queries and the connection this status and cache
abbrev pub process_of : Dialect → List Declared → Status → Known → Deed → Process Outcome
process_of d queries s c (deeds.Batch text) = map_process (told_as c) (send_process d text s)
process_of d queries s c deeds.Begin = map_process (told_as c) (begin_process d s)
process_of d queries s c (deeds.BeginBy form) = map_process (told_as c) (begin_sql_process d (form_text form) s)
process_of d queries s c deeds.Commit = map_process (told_as c) (commit_process d s)
process_of d queries s c deeds.Rollback = map_process (told_as c) (rollback_process d s)
process_of d queries s c deeds.TestBegin = map_process (told_as c) (begin_test_process d s)
process_of d queries s c (deeds.Close kind answer) = map_process (told_as c) (close_process kind answer d s)
process_of d queries s c (deeds.Query call n) = declared_process d call (find_query n queries) s c
process_of d queries s c (deeds.CacheSize size) = Stop (outcome replies.Ok s (resized size c))
process_of d queries s c deeds.Ping = map_process (asked_as (λ u. replies.Ok)) (ping_process d s c)

-- ---- what `get` asks

-- what a new connection is asked, and whether one that was kept is pinged
pub record Policy : Type 0 where
  pub customizer : Customizer
  pub check : Bool

-- that of a script
abbrev pub policy_of : Script → Policy
policy_of script = record { customizer = script.customizer; check = script.check }

-- what a customizer asks of a new connection
abbrev pub customizer_deed : Customizer → Option Deed
customizer_deed Nop = None
customizer_deed customizers.Test = Some deeds.TestBegin
customizer_deed customizers.Begin = Some deeds.Begin

-- what a connection that was kept is asked
abbrev pub check_deed : Bool → Option Deed
check_deed true = Some deeds.Ping
check_deed false = None

-- what `get` asks of a connection, kept or new
abbrev pub get_deed : Policy → Bool → Option Deed
get_deed policy kept = if kept then check_deed policy.check else customizer_deed policy.customizer
