-- How the rows of a run are asked one at a time, while their connection is lent.
use Rattle.std.specs.Prelude.{◌≡◌, ◌⊎◌, Bool, ⊤, ℕ, List, [], ◌∷◌, ◌++◌, Option, Some, None, Result, Ok, Err, take, true}
use Rattle.std.specs.Option.{unwrap_or}
use Rattle.conn_result.specs.declared.error.Error.{Error}
use Rattle.conn_result.specs.declared.error.Error.TheVariants.{OutOfMemory}
use Rattle.conn_cache.specs.Faults.{query_fault}
use Rattle.conn_cache.specs.LoadProcesses.{Gathering, load_process, looks, rows_heard}
use Rattle.conn_cache.specs.QueryProcesses.{asked, unless_fault}
use Rattle.conn_cache.specs.QueryViews.{QueryView}
use Rattle.conn_manager.specs.Manages.{HasServerCause}
use Rattle.conn_manager.specs.Views.{View, with_event}
use Rattle.conn_model.specs.Acts.{Tells}
use Rattle.conn_model.specs.Armed.{Values}
use Rattle.conn_model.specs.Caches.{Cache}
use Rattle.conn_model.specs.Events.{FinishQuery}
use Rattle.conn_model.specs.Seen.{Seen}
use Rattle.conn_model.specs.declared.item.Refusal.{Refusal}
use Rattle.conn_drivers.specs.Loaded.{LoadsFrom, made_of}
use Rattle.conn_drivers.specs.Loading.{HasRows, Looks, TakesRow, after_start, row_error, seen_shut}
use Rattle.conn_drivers.specs.Prepares.{error_by}
use Rattle.conn_drivers.specs.Queried.{Goes, IsIdle}
use Rattle.conn_drivers.specs.Reading.{AnswersBy, AreOver, SkipsRows}
use Rattle.conn_drivers.specs.Standing.{AreHeld, held_prop}
use Rattle.conn_drivers.specs.declared.progress.Progress.{Progress}
use Rattle.conn_drivers.specs.declared.progress.Progress.TheVariants.{Going, Ended, Refused}
use Rattle.conn_drivers.specs.declared.statement.Statement.{Statement}

-- the kept statements are open once that of a run is closed
abbrev pub AreHeldAfter : Option ℕ → Seen → Cache Statement → Type 0
AreHeldAfter statement s cache = AreHeld (seen_shut statement s).open_statements cache

-- there is one proof of it at most
pub held_after_prop : (statement : Option ℕ) (s : Seen) (cache : Cache Statement) → IsProp (AreHeldAfter statement s cache)
held_after_prop statement s cache = held_prop (seen_shut statement s).open_statements cache

-- ---- the start

-- what a load does before its rows are asked, but for its first event
abbrev pub StartsBetween : {T : Type 0} → Bool → QueryView → View → View → Result T Error → Type 0
StartsBetween honest q old new result =
    IsIdle old new result old.heeded ⊎ ((gather : Gathering) → Goes honest (unless_fault true old.seen.dialect q (looks gather old.seen.dialect q) (query_fault old.seen.dialect q) old.status old.cache) (after_start gather old.seen.dialect q result new.status new.cache) old.seen new.seen old.heeded new.heeded)

-- a load was told and run, and its rows are asked next
pub record Begins (honest : Bool) (q : QueryView) (old new : View) : Type 0 where
  pub goes : (gather : Gathering) → Goes honest (load_process gather old.seen.dialect q old.status old.cache) (looks gather old.seen.dialect q 0 new.status new.cache) old.seen new.seen old.heeded new.heeded
  pub rows : HasRows honest q.sql new.seen
  pub same : new.seen.dialect ≡ old.seen.dialect
  pub cause : HasServerCause old.seen new.seen (Ok tt)

-- it was over with an error
pub record EndsEarly (honest : Bool) (q : QueryView) (old new : View) (e : Error) : Type 0 where
  pub loads : LoadsFrom honest q (λ rows. Ok rows) old new (Err e)
  pub cause : HasServerCause old.seen new.seen (Err e)

-- where it was over with an error
abbrev pub RestsEarly : {T : Type 0} → Bool → QueryView → View → View → Result T Error → Type 0
RestsEarly honest q old new (Ok x) = ⊤
RestsEarly honest q old new (Err e) = EndsEarly honest q old new e

-- ---- its rows

-- want of memory leaves a row to be asked again, another error ends the rows
abbrev pub progress_after : Error → Progress
progress_after OutOfMemory = Going
progress_after e = Refused e

-- what is answered where this was asked
abbrev pub AnswersNext : Result (Option Values) Error → Progress → Option (Result Values Error) → Type 0
AnswersNext (Ok (Some row)) progress result = (progress ≡ Going) × (result ≡ Some (Ok row))
AnswersNext (Ok None) progress result = (progress ≡ Ended) × (result ≡ None)
AnswersNext (Err e) progress result = (progress ≡ progress_after e) × (result ≡ Some (Err e))

-- the next row was asked, and nothing but it changed
pub record AsksNext (old new : View) (progress : Progress) (result : Option (Result Values Error)) : Type 0 where
  pub asked : Result (Option Values) Error
  pub takes : TakesRow old.seen new.seen old.status new.status asked
  pub keeps : new ≡ record old { seen = new.seen; status = new.status }
  pub answers : AnswersNext asked progress result

-- none was asked, and nothing changed
pub record AsksNone (old new : View) (before progress : Progress) (result : Option (Result Values Error)) : Type 0 where
  pub is : result ≡ None
  pub view : new ≡ old
  pub stays : progress ≡ before

-- the next row where rows may be left; none once they are over
abbrev pub NextsBy : Progress → View → View → Progress → Option (Result Values Error) → Type 0
NextsBy Going old new progress result = AsksNext old new progress result
NextsBy Ended old new progress result = AsksNone old new Ended progress result
NextsBy (Refused e) old new progress result = AsksNone old new (Refused e) progress result

-- ---- the end

-- the error of the rows so far
abbrev pub refusal_in : Progress → Option Error
refusal_in Going = None
refusal_in Ended = None
refusal_in (Refused e) = Some e

-- the statement is closed, and the end is told
abbrev pub cursor_end : Option ℕ → List ℕ → Option Error → View → View
cursor_end statement sql error v = with_event (record v { seen = seen_shut statement v.seen }) (FinishQuery sql error)

-- ---- the end of a cursor that asks the rest

-- the rows that were left were asked, and nothing else changed
pub record SkipsRest (old new : View) (result : Result (Unit {0}) Error) : Type 0 where
  pub skips : SkipsRows old.seen new.seen old.status new.status result
  pub keeps : new ≡ record old { seen = new.seen; status = new.status }

-- none was left
pub record SkipsNone (old new : View) (result : Result (Unit {0}) Error) : Type 0 where
  pub is : result ≡ Ok tt
  pub view : new ≡ old

-- the rest is asked where rows may be left
abbrev pub SkipsLeft : Progress → View → View → Result (Unit {0}) Error → Type 0
SkipsLeft Going old new result = SkipsRest old new result
SkipsLeft Ended old new result = SkipsNone old new result
SkipsLeft (Refused e) old new result = SkipsNone old new result

-- the error that is told then: that of the rest, or of the rows before
abbrev pub error_at_end : Progress → Result (Unit {0}) Error → Option Error
error_at_end progress (Ok u) = refusal_in progress
error_at_end progress (Err e) = row_error e

-- the rest is asked, the statement is closed, and the end is told
pub record FinishesBy (progress : Progress) (statement : Option ℕ) (sql : List ℕ) (old new : View) (result : Result (Unit {0}) Error) : Type 0 where
  pub mid : View
  pub skips : SkipsLeft progress old mid result
  pub ends : new ≡ cursor_end statement sql (error_at_end progress result) mid

-- ---- the whole load

-- the row that was answered
abbrev pub answered_row : Option (Result Values Error) → List Values
answered_row (Some (Ok row)) = row ∷ []
answered_row (Some (Err e)) = []
answered_row None = []

-- how the rows stand: none was refused so far, none is left, or this one was refused
abbrev pub StandsAt : Progress → Option Refusal → Seen → Type 0
StandsAt Going None s = ⊤
StandsAt Going (Some r) s = ⊥
StandsAt Ended None s = AreOver s
StandsAt Ended (Some r) s = ⊥
StandsAt (Refused e) None s = ⊥
StandsAt (Refused e) (Some r) s = e ≡ error_by r

-- since a load began these rows were given, and nothing but its rows was asked
pub record HasAsked (begun now : View) (progress : Progress) (front : List Values) : Type 0 where
  pub refusal : Option Refusal
  pub looks : Looks begun.seen now.seen begun.status now.status front refusal
  pub keeps : now ≡ record begun { seen = now.seen; status = now.status }
  pub stands : StandsAt progress refusal now.seen

-- the rows of a load that is ended there: those that were given, and those that are left
abbrev pub rows_of_load : Progress → List Values → Seen → Result (List Values) Error
rows_of_load Going front s = Ok (front ++ unwrap_or s.rows [])
rows_of_load Ended front s = Ok front
rows_of_load (Refused e) front s = Err e

-- a load was told, asked and ended by its process
abbrev pub LoadsByRow : Bool → QueryView → View → View → View → Progress → List Values → Type 0
LoadsByRow honest q old last new progress front =
    Tells honest (load_process rows_heard old.seen.dialect q old.status old.cache) old.seen new.seen old.heeded new.heeded (asked (rows_of_load progress front last.seen) new.status new.cache)

-- ---- the first rows

-- the first of the rows, at most so many
abbrev pub front_rows : ℕ → List Values → Result (List Values) Error
front_rows count rows = Ok (take count rows)

-- since a load began its first rows were asked, and these are answered, but for want of memory
pub record TakesRows (count : ℕ) (begun now : View) (progress : Progress) (result : Result (List Values) Error) : Type 0 where
  pub front : List Values
  pub asked : HasAsked begun now progress front
  pub answers : AnswersBy (made_of (front_rows count) (rows_of_load progress front now.seen)) result
