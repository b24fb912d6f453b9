-- What a query tells, sends and answers whose rows are loaded.
use Rattle.std.specs.Prelude.{ℕ, true, List, Option, Some, None, Result, Ok, Err}
use Rattle.conn_result.specs.declared.error.Error.{Error}
use Rattle.conn_result.specs.declared.error.Error.TheVariants.{DatabaseError, OutOfMemory}
use Rattle.conn_model.specs.Armed.{Values}
use Rattle.conn_model.specs.Caches.{Known}
use Rattle.conn_model.specs.Process.{Process, Look}
use Rattle.conn_model.specs.declared.item.Dialect.{Dialect}
use Rattle.conn_model.specs.declared.item.Refusal.{Refusal}
use Rattle.conn_model.specs.declared.item.Told.{Told}
use Rattle.conn_manager.specs.Statuses.{Status, retold}
use Rattle.conn_cache.specs.QueryProcesses.{Asked, finishes, query_process}
use Rattle.conn_cache.specs.QueryViews.{QueryView}

-- the status after rows were asked, which only a refused one changes
abbrev pub looked : Dialect → Option Refusal → Told → Status → Status
looked d None told s = s
looked d (Some r) told s = retold d (Some r) told s

-- what is made of the rows that were heard, or of the refusal of one
abbrev pub Gathering : Type 0
Gathering = Option Refusal → List Values → Result (List Values) Error

-- the rows, or the refusal as an error
abbrev pub rows_heard : Gathering
rows_heard None rows = Ok rows
rows_heard (Some r) rows = Err (DatabaseError r.kind r.code)

-- memory for the rows was wanting
abbrev pub rows_lost : Gathering
rows_lost refusal rows = Err OutOfMemory

-- the rows of the run are asked, and the query is over with them
abbrev pub looks : Gathering → Dialect → QueryView → ℕ → Status → Known → Process (Asked (List Values))
looks gather d q affected s c = Look q.sql (λ h. finishes q.sql (gather h.refusal h.rows) (looked d h.refusal h.told s) c)

-- a query is run, and its rows are asked
abbrev pub load_process : Gathering → Dialect → QueryView → Status → Known → Process (Asked (List Values))
load_process gather d q s c = query_process true d q (looks gather d q) s c
