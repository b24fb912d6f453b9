-- What a query tells, sends and answers, and what it leaves of the status and of the cache.
use Rattle.std.specs.Prelude.{ℕ, ◌+◌, ◌^◌, nat_eq, nat_lt, Bool, true, false, if◌then◌else◌, List, [], ◌∷◌, ◌++◌, codes, Option, Some, None, Result, Ok, Err, slice_get}
use Rattle.std.specs.Option.{unwrap_or}
use Rattle.std.specs.Result.{result_err}
use Rattle.conn_result.specs.declared.error.Error.{Error}
use Rattle.conn_result.specs.declared.error.Error.TheVariants.{DatabaseError, DeserializationError, IntegerConversion, QueryIdClash, CounterExhausted}
use Rattle.conn_result.specs.declared.error.RowFault.TheVariants.{NoMetadata}
use Rattle.conn_model.specs.Events.{StartQuery, CacheQuery, FinishQuery}
use Rattle.conn_model.specs.Process.{Process, Stop, Tell, map_process}
use Rattle.conn_model.specs.declared.item.Call.TheVariants.{Prepare, Run}
use Rattle.conn_model.specs.declared.item.Dialect.{Dialect}
use Rattle.conn_model.specs.declared.item.Dialect.TheVariants.{Pg, Mysql, Sqlite}
use Rattle.conn_model.specs.declared.item.Refusal.{Refusal}
use Rattle.conn_model.specs.declared.value.BindType.{BindType}
use Rattle.conn_manager.specs.Manages.{ask}
use Rattle.conn_manager.specs.Statuses.{Status}
use Rattle.conn_cache.specs.Faults.{query_fault}
use Rattle.conn_cache.specs.QueryViews.{QueryView}
use Rattle.conn_model.specs.Caches.{Known, same_size}
use Rattle.conn_cache.specs.Registers.{due, register_after, register_sized}
use Rattle.conn_cache.specs.declared.entry.Due.{Due}
use Rattle.conn_cache.specs.declared.entry.Due.TheVariants.{Plain, Found, Clash, Exhausted, New}
use Rattle.conn_model.specs.declared.cache.CacheSize.{CacheSize}

-- what a query answers, and what it leaves
pub record Asked (A : Type 0) : Type 0 where
  pub reply : Result A Error
  pub status : Status
  pub cache : Known

-- an answer with what is left
abbrev pub asked : {A : Type 0} → Result A Error → Status → Known → Asked A
asked r s c = record { reply = r; status = s; cache = c }

-- the types by which a query is looked up: on PostgreSQL those of its binds
abbrev pub types_for : Dialect → QueryView → List BindType
types_for Pg q = q.types
types_for Mysql q = []
types_for Sqlite q = []

-- how many columns the statement at a place has
abbrev pub columns_at : ℕ → Known → ℕ
columns_at place c = unwrap_or (slice_get c.statements place) 0

-- the cache after a new entry was due, whose prepare was refused or not
abbrev pub with_new : QueryView → List BindType → Option Refusal → ℕ → Known → Known
with_new q types None columns c = record { register = register_after q types true c.register; statements = c.statements ++ columns ∷ [] }
with_new q types (Some r) columns c = record c { register = register_after q types false c.register }

-- the cache after this size was set
abbrev pub resized : CacheSize → Known → Known
resized size c = record { register = register_sized size c.register; statements = if same_size size c.register.size then c.statements else [] }

-- MySQL tells no columns of a statement without rows, and none can be loaded
abbrev pub lacks_metadata : Bool → Dialect → ℕ → Bool
lacks_metadata false d columns = false
lacks_metadata true Pg columns = false
lacks_metadata true Mysql columns = nat_eq columns 0
lacks_metadata true Sqlite columns = false

-- a query of this text is over with an answer, which its handler is told
abbrev pub finishes : {A : Type 0} → List ℕ → Result A Error → Status → Known → Process (Asked A)
finishes sql r s c = Tell (FinishQuery sql (result_err r)) (Stop (asked r s c))

-- it is over with a refusal of the server's
abbrev pub refused : {A : Type 0} → List ℕ → Refusal → Status → Known → Process (Asked A)
refused sql r s c = finishes sql (Err (DatabaseError r.kind r.code)) s c

-- whether rows are loaded, a dialect, a query, and what follows its accepted run, by the affected rows
module _ {A : Type 0} (loads : Bool) (d : Dialect) (q : QueryView) (after : ℕ → Status → Known → Process (Asked A)) where
  -- after the run
  abbrev pub ran : Option Refusal → ℕ → Status → Known → Process (Asked A)
  ran None affected s c = after affected s c
  ran (Some r) affected s c = refused q.sql r s c

  -- its text is run with its binds
  abbrev pub runs : Status → Known → Process (Asked A)
  runs s c = ask d (Run q.binds) q.sql s (λ h s1. ran h.refusal h.affected s1 c)

  -- so it is by a statement with so many columns
  abbrev pub runs_with : ℕ → Status → Known → Process (Asked A)
  runs_with columns s c = if lacks_metadata loads d columns then finishes q.sql (Err (DeserializationError NoMetadata)) s c else runs s c

  -- after the prepare
  abbrev pub prepared : Option Refusal → ℕ → Status → Known → Process (Asked A)
  prepared None columns s c = runs_with columns s c
  prepared (Some r) columns s c = refused q.sql r s c

  -- a statement is prepared for this run alone, but on PostgreSQL, which runs the text
  abbrev pub runs_plain : Dialect → Status → Known → Process (Asked A)
  runs_plain Pg s c = runs s c
  runs_plain Mysql s c = ask d (Prepare None) q.sql s (λ h s1. prepared h.refusal h.columns s1 c)
  runs_plain Sqlite s c = ask d (Prepare None) q.sql s (λ h s1. prepared h.refusal h.columns s1 c)

  -- a statement is prepared and kept, and the handler is told before
  abbrev pub runs_new : Status → Known → Process (Asked A)
  runs_new s c =
      Tell (CacheQuery q.sql) (ask d (Prepare (Some (c.register.counter + 1))) q.sql s (λ h s1. prepared h.refusal h.columns s1 (with_new q (types_for d q) h.refusal h.columns c)))

  -- by what is due
  abbrev pub runs_due : Due → Status → Known → Process (Asked A)
  runs_due Plain s c = runs_plain d s c
  runs_due (Found place) s c = runs_with (columns_at place c) s c
  runs_due Clash s c = finishes q.sql (Err QueryIdClash) s c
  runs_due Exhausted s c = finishes q.sql (Err CounterExhausted) s c
  runs_due New s c = runs_new s c

  -- it is looked up, unless it has a fault
  abbrev pub unless_fault : Option Error → Status → Known → Process (Asked A)
  unless_fault None s c = runs_due (due q (types_for d q) c.register) s c
  unless_fault (Some e) s c = finishes q.sql (Err e) s c

  -- the whole query, whose start is told first
  abbrev pub query_process : Status → Known → Process (Asked A)
  query_process s c = Tell (StartQuery q.sql) (unless_fault (query_fault d q) s c)

-- a number of rows in the type of an answer
abbrev pub affected_count : ℕ → Result ℕ Error
affected_count affected = if nat_lt affected (2 ^ 64) then Ok affected else Err IntegerConversion

-- the affected rows are the answer
abbrev pub counted : QueryView → ℕ → Status → Known → Process (Asked ℕ)
counted q affected s c = finishes q.sql (affected_count affected) s c

-- a query is executed, and no row of it is asked
abbrev pub execute_process : Dialect → QueryView → Status → Known → Process (Asked ℕ)
execute_process d q s c = query_process false d q (counted q) s c

-- an answer without its value
abbrev pub without_value : {A : Type 0} → Result A Error → Result (Unit {0}) Error
without_value (Ok x) = Ok tt
without_value (Err e) = Err e

-- what is left with it
abbrev pub asked_without_value : {A : Type 0} → Asked A → Asked (Unit {0})
asked_without_value a = asked (without_value a.reply) a.status a.cache

-- what a ping executes
abbrev pub ping_view : QueryView
ping_view = record { sql = codes "SELECT 1"; types = []; binds = []; is_safe = true; has_changes = true; id = Some 0 }

-- a ping
abbrev pub ping_process : Dialect → Status → Known → Process (Asked (Unit {0}))
ping_process d s c = map_process asked_without_value (execute_process d ping_view s c)
