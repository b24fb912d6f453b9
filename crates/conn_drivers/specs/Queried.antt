-- What a query does on a wire, and what its connection does.
use Rattle.std.specs.Prelude.{◌≡◌, ◌⊎◌, ℕ, ◌+◌, ◌≤◌, Bool, true, false, ⊤, List, [], ◌∷◌, map, Some, Result, Ok, Err}
use Rattle.conn_result.specs.declared.error.Error.{Error}
use Rattle.conn_result.specs.declared.error.Error.TheVariants.{OutOfMemory}
use Rattle.conn_cache.specs.Faults.{query_fault}
use Rattle.conn_model.specs.Caches.{Known, Cache}
use Rattle.conn_model.specs.declared.cache.CacheSize.{CacheSize}
use Rattle.conn_cache.specs.QueryProcesses.{Asked, affected_count, asked, columns_at, counted, finishes, resized, runs, runs_due, runs_with, types_for, unless_fault}
use Rattle.conn_cache.specs.QueryViews.{QueryView}
use Rattle.conn_cache.specs.Registers.{due}
use Rattle.conn_cache.specs.declared.statement_cache.MaybeCached.{MaybeCached}
use Rattle.conn_cache.specs.declared.statement_cache.MaybeCached.TheVariants.{CannotCache, Cached}
use Rattle.conn_manager.specs.Manages.{IsUntouched}
use Rattle.conn_manager.specs.Statuses.{Status}
use Rattle.conn_manager.specs.Views.{KeepsCache, View}
use Rattle.conn_model.specs.Acts.{Tells}
use Rattle.conn_model.specs.Armed.{Values}
use Rattle.conn_model.specs.Events.{Heeded, with_events, StartQuery, FinishQuery}
use Rattle.conn_model.specs.Process.{Process}
use Rattle.conn_model.specs.Seen.{Seen, Opened}
use Rattle.conn_model.specs.Statements.{source_text, without_open}
use Rattle.conn_model.specs.declared.item.Dialect.{Dialect}
use Rattle.conn_model.specs.declared.item.Dialect.TheVariants.{Pg, Mysql, Sqlite}
use Rattle.conn_model.specs.declared.reply.RunSource.TheVariants.{Prepared}
use Rattle.conn_drivers.specs.Wires.{OpensStatement}
use Rattle.conn_drivers.specs.declared.statement.Statement.{Statement}

-- the cache as queries know it
abbrev pub known_of : Cache Statement → Known
known_of c = record { register = c.register; statements = map (λ (t : Statement). t.columns) c.statements }

-- where the rest acts and tells from here on, the whole did from the start
pub record Goes {A : Type 0} (honest : Bool) (whole rest : Process A) (old mid : Seen) (before now : Heeded) : Type 0 where
  pub then : (new : Seen) (after : Heeded) (a : A) → Tells honest rest mid new now after a → Tells honest whole old new before after a

-- what a query answers: its rows where they are loaded, else how many it affected
abbrev pub Answer : Bool → Type 0
Answer true = List Values
Answer false = ℕ

-- what follows the accepted run of a query, by the affected rows
abbrev pub Following : Type 0 → Type 0
Following A = ℕ → Status → Known → Process (Asked A)

-- how many columns the statement of a look-up has
abbrev pub statement_columns : Known → Result (MaybeCached Statement) Error → Result ℕ Error
statement_columns c (Ok (Cached place)) = Ok (columns_at place c)
statement_columns c (Ok (CannotCache t)) = Ok t.columns
statement_columns c (Err e) = Err e

module _ {A : Type 0} (q : QueryView) (after : Following A) where
  -- what is left of a query after its run: what follows it, or the end with its error
  abbrev pub after_run : Result ℕ Error → Status → Known → Process (Asked A)
  after_run (Ok affected) s c = after affected s c
  after_run (Err e) s c = finishes q.sql (Err e) s c

  -- what is left after its look-up: the run by a statement of so many columns, or the end with its error
  abbrev pub looked_up : Bool → Dialect → Result ℕ Error → Status → Known → Process (Asked A)
  looked_up loads d (Ok columns) s c = runs_with loads d q after columns s c
  looked_up loads d (Err e) s c = finishes q.sql (Err e) s c

-- for want of memory nothing was done
pub record DoesNothing {W I A : Type 0} (w w' : W) (c c' : Cache Statement) (i i' : I) (result : Result A Error) : Type 0 where
  pub is : result ≡ Err OutOfMemory
  pub wire : w' ≡ w
  pub cache : c' ≡ c
  pub handler : i' ≡ i

-- a query on a wire with its cache and its handler, before and after, from the look-up on
module _ {W I : Type 0} (honest : Bool) (q : QueryView) (seen : W → Seen) (status : W → Status) (told : I → Heeded) (w w' : W) (c c' : Cache Statement) (i i' : I) where
  -- this is left of it
  abbrev pub LeavesOf : {A : Type 0} → Bool → Following A → Process (Asked A) → Type 0
  LeavesOf loads after rest = Goes honest (runs_due loads (seen w).dialect q after (due q (types_for (seen w).dialect q) c.register) (status w) (known_of c)) rest (seen w) (seen w') (told i) (told i')

  -- it is looked up, whatever follows its run
  abbrev pub Readies : Result (MaybeCached Statement) Error → Type 0
  Readies result =
      DoesNothing w w' c c' i i' result ⊎ ((loads : Bool) (after : Following (Answer loads)) → LeavesOf loads after (looked_up q after loads (seen w).dialect (statement_columns (known_of c') result) (status w') (known_of c')))

  -- it is answered
  abbrev pub Queries : Result ℕ Error → Type 0
  Queries result = DoesNothing w w' c c' i i' result ⊎ LeavesOf false (counted q) (finishes q.sql result (status w') (known_of c'))

-- a statement for one run is the newest that is open; on PostgreSQL none was opened
abbrev pub OpensPlain : Dialect → List ℕ → List Opened → List Opened → Statement → Type 0
OpensPlain Pg sql old new t = new ≡ old
OpensPlain Mysql sql old new t = OpensStatement sql old new t.number
OpensPlain Sqlite sql old new t = OpensStatement sql old new t.number

-- a look-up that keeps no statement opens one for this run, and leaves the cache
abbrev pub KeepsNone : Dialect → List ℕ → List Opened → List Opened → Cache Statement → Cache Statement → Result (MaybeCached Statement) Error → Type 0
KeepsNone d sql old new c c' (Ok (CannotCache t)) = OpensPlain d sql old new t × (c' ≡ c)
KeepsNone d sql old new c c' (Ok (Cached place)) = ⊤
KeepsNone d sql old new c c' (Err e) = ⊤

-- a statement for one run can be run; on PostgreSQL its text is
abbrev pub CanRun : Dialect → List Opened → Statement → List ℕ → Type 0
CanRun Pg os t sql = ⊤
CanRun Mysql os t sql = source_text os (Prepared t.number) ≡ Some sql
CanRun Sqlite os t sql = source_text os (Prepared t.number) ≡ Some sql

-- the open statements once it is closed
abbrev pub shut_in : Dialect → List Opened → Statement → List Opened
shut_in Pg os t = os
shut_in Mysql os t = without_open t.number os
shut_in Sqlite os t = without_open t.number os

-- a query was run, whatever follows, whatever is known and whatever was told before
abbrev pub RunsOut : Bool → QueryView → Seen → Seen → Status → Status → Result ℕ Error → Type 0
RunsOut honest q old new s s1 result = (loads : Bool) (after : Following (Answer loads)) (d : Dialect) → d ≡ old.dialect → (k : Known) (told : Heeded) → Goes honest (runs loads d q after s k) (after_run q after result s1 k) old new told told

-- a query used up no more room than this, on the same server, and no row was asked
pub record Spends (items bytes : ℕ) (old new : Seen) : Type 0 where
  pub dialect : new.dialect ≡ old.dialect
  pub item_fall : old.item_room ≤ new.item_room + items
  pub byte_fall : old.byte_room ≤ new.byte_room + bytes
  pub given : new.given ≡ old.given

-- the affected rows as the answer
abbrev pub counted_by : Result ℕ Error → Result ℕ Error
counted_by (Ok affected) = affected_count affected
counted_by (Err e) = Err e

-- nothing was done for want of memory, and the handler was told this
pub record IsIdle {A : Type 0} (old new : View) (reply : Result A Error) (heeded : Heeded) : Type 0 where
  pub is : reply ≡ Err OutOfMemory
  pub untouched : IsUntouched old.seen new.seen old.status new.status
  pub cache : KeepsCache old new
  pub heeds : new.heeded ≡ heeded

-- the two events of a query for which memory was wanting
abbrev pub idle_events : Heeded → List ℕ → Heeded
idle_events heeded sql = with_events heeded (StartQuery sql ∷ FinishQuery sql (Some OutOfMemory) ∷ [])

-- a query tells and acts by its process; or memory was wanting, and its two events alone happened
abbrev pub QueriesFrom : {A : Type 0} → Bool → QueryView → (Dialect → Status → Known → Process (Asked A)) → View → View → Result A Error → Type 0
QueriesFrom honest q process old new reply =
    IsIdle old new reply (idle_events old.heeded q.sql) ⊎ Tells honest (process old.seen.dialect old.status old.cache) old.seen new.seen old.heeded new.heeded (asked reply new.status new.cache)

-- what a query does between its two events
abbrev pub QueriesBetween : Bool → QueryView → View → View → Result ℕ Error → Type 0
QueriesBetween honest q old new reply =
    IsIdle old new reply old.heeded ⊎ Goes honest (unless_fault false old.seen.dialect q (counted q) (query_fault old.seen.dialect q) old.status old.cache) (finishes q.sql reply new.status new.cache) old.seen new.seen old.heeded new.heeded

-- the cache has this size now, statements may have been closed for it, and nothing else happened
abbrev pub SetsCacheSize : CacheSize → View → View → Type 0
SetsCacheSize size old new = new ≡ record old { seen = record old.seen { open_statements = new.seen.open_statements }; cache = resized size old.cache }
