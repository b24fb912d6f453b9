-- What a load of a connection does between its two events.
use Rattle.std.specs.Prelude.{◌≡◌, ◌⊎◌, Bool, true, List, Option, Some, Result}
use Rattle.conn_result.specs.declared.error.Error.{Error}
use Rattle.conn_result.specs.declared.error.Error.TheVariants.{OutOfMemory}
use Rattle.conn_model.specs.Acts.{Tells}
use Rattle.conn_model.specs.Armed.{Values}
use Rattle.conn_cache.specs.Faults.{query_fault}
use Rattle.conn_cache.specs.LoadProcesses.{Gathering, load_process, looks}
use Rattle.conn_cache.specs.QueryProcesses.{asked, finishes, unless_fault}
use Rattle.conn_cache.specs.QueryViews.{QueryView}
use Rattle.conn_manager.specs.Views.{View}
use Rattle.conn_drivers.specs.Loading.{Makes}
use Rattle.conn_drivers.specs.Queried.{Goes, IsIdle, idle_events}

-- this is left of a load, by what is made of its rows
abbrev pub LeavesLoad : Bool → QueryView → View → View → Gathering → Result (List Values) Error → Type 0
LeavesLoad honest q old new gather rows =
    Goes honest (unless_fault true old.seen.dialect q (looks gather old.seen.dialect q) (query_fault old.seen.dialect q) old.status old.cache) (finishes q.sql rows new.status new.cache) old.seen new.seen old.heeded new.heeded

module _ {T : Type 0} (honest : Bool) (q : QueryView) (makes : List Values → Result T Error → Type 0) (old new : View) (error : Option Error) (reply : Result T Error) where
  -- nothing was done for want of memory, and the handler is to be told this
  pub record IsIdleLoad : Type 0 where
    pub told_of : error ≡ Some OutOfMemory
    pub idle : IsIdle old new reply old.heeded

  -- what a load does between its two events
  abbrev pub LoadsBetween : Type 0
  LoadsBetween = IsIdleLoad ⊎ Makes (LeavesLoad honest q old new) makes error reply

-- a load tells and acts by its process, by what is made of its rows
abbrev pub TellsLoad : Bool → QueryView → View → View → Gathering → Result (List Values) Error → Type 0
TellsLoad honest q old new gather rows = Tells honest (load_process gather old.seen.dialect q old.status old.cache) old.seen new.seen old.heeded new.heeded (asked rows new.status new.cache)

-- a query was loaded, whatever error its handler was told of; or memory was wanting, and its two events alone happened
abbrev pub LoadsBy : {T : Type 0} → Bool → QueryView → (List Values → Result T Error → Type 0) → View → View → Result T Error → Type 0
LoadsBy honest q makes old new reply = IsIdle old new reply (idle_events old.heeded q.sql) ⊎ ((error : Option Error) × Makes (TellsLoad honest q old new) makes error reply)
