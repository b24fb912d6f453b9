-- What a query does whose rows are loaded.
use Rattle.std.specs.Global.{Vec}
use Rattle.std.specs.Prelude.{◌≡◌, ◌⊎◌, ◌≤◌, Bool, max, List, Result, Ok, Err, OnOk}
use Rattle.conn_result.specs.declared.error.Error.{Error}
use Rattle.conn_result.specs.declared.error.Error.TheVariants.{OutOfMemory}
use Rattle.conn_model.specs.Acts.{Tells}
use Rattle.conn_model.specs.Armed.{Values}
use Rattle.conn_model.specs.Seen.{Seen}
use Rattle.conn_model.specs.declared.item.Dialect.{Dialect}
use Rattle.conn_model.specs.declared.item.Dialect.TheVariants.{Pg, Mysql, Sqlite}
use Rattle.conn_cache.specs.LoadProcesses.{load_process, rows_heard, rows_lost}
use Rattle.conn_cache.specs.QueryProcesses.{asked}
use Rattle.conn_cache.specs.QueryViews.{QueryView}
use Rattle.conn_manager.specs.Views.{View}
use Rattle.conn_drivers.specs.Queried.{IsIdle, idle_events}

-- a list as its elements
abbrev pub listed : {T : Type 0} → Result (Vec T) Error → Result (List T) Error
listed (Ok v) = Ok v.items
listed (Err e) = Err e

-- what is made of the rows of a query, or its error
abbrev pub made_of : {A : Type 0} → (List Values → Result A Error) → Result (List Values) Error → Result A Error
made_of made (Ok rows) = made rows
made_of made (Err e) = Err e

module _ {A : Type 0} (honest : Bool) (q : QueryView) (made : List Values → Result A Error) (old new : View) (reply : Result A Error) where
  -- its rows were asked, and made into the reply, but for want of memory for it
  pub record LoadsRows : Type 0 where
    pub rows : Result (List Values) Error
    pub tells : Tells honest (load_process rows_heard old.seen.dialect q old.status old.cache) old.seen new.seen old.heeded new.heeded (asked rows new.status new.cache)
    pub answers : (reply ≡ made_of made rows) ⊎ (reply ≡ Err OutOfMemory)

  -- memory was wanting for rows that are all held at once, and the handler was told this
  pub record LacksRows : Type 0 where
    pub is : reply ≡ Err OutOfMemory
    pub tells : Tells honest (load_process rows_lost old.seen.dialect q old.status old.cache) old.seen new.seen old.heeded new.heeded (asked (Err OutOfMemory) new.status new.cache)

  -- a query was loaded; or memory was wanting, before anything was sent or for its rows
  abbrev pub LoadsFrom : Type 0
  LoadsFrom = IsIdle old new reply (idle_events old.heeded q.sql) ⊎ (LacksRows ⊎ LoadsRows)

-- where a list was loaded no row is left
abbrev pub AsksAll : {A : Type 0} → Seen → Result A Error → Type 0
AsksAll new result = OnOk result (new.rows_left ≡ 0)

-- one row at most was asked
abbrev pub AsksOne : Seen → Seen → Type 0
AsksOne old new = new.given ≤ max old.given 1

-- where the first row alone is wanted: PostgreSQL is asked for all rows, the others for one
abbrev pub AsksFirst : {A : Type 0} → Dialect → Seen → Seen → Result A Error → Type 0
AsksFirst Pg old new result = AsksAll new result
AsksFirst Mysql old new result = AsksOne old new
AsksFirst Sqlite old new result = AsksOne old new
