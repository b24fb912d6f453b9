-- How the rows of a run are asked on a wire, and what is made of them.
use Rattle.std.specs.Prelude.{◌≡◌, ◌⊎◌, ℕ, ◌+◌, Bool, true, false, List, [], ◌++◌, length, Option, Some, None, Result, Ok, Err, MatchResult}
use Rattle.std.specs.Option.{option_map, unwrap_or}
use Rattle.std.specs.Result.{result_err}
use Rattle.conn_result.specs.declared.error.Error.{Error}
use Rattle.conn_result.specs.declared.error.Error.TheVariants.{OutOfMemory}
use Rattle.conn_model.specs.Armed.{Values, rows_of}
use Rattle.conn_model.specs.Caches.{Known, Cache}
use Rattle.conn_model.specs.Events.{Heeded}
use Rattle.conn_model.specs.Process.{Process}
use Rattle.conn_model.specs.Rows.{GivenRow, NoRow, RefusesRow}
use Rattle.conn_model.specs.Seen.{Seen, Opened}
use Rattle.conn_model.specs.Statements.{closes, without_open}
use Rattle.conn_model.specs.declared.item.Dialect.{Dialect}
use Rattle.conn_model.specs.declared.item.Refusal.{Refusal}
use Rattle.conn_cache.specs.LoadProcesses.{Gathering, looks, rows_heard, rows_lost}
use Rattle.conn_cache.specs.QueryProcesses.{Asked, finishes, runs_with}
use Rattle.conn_cache.specs.QueryViews.{QueryView}
use Rattle.conn_manager.specs.Statuses.{Status, retold}
use Rattle.conn_drivers.specs.Loaded.{AsksAll, AsksOne}
use Rattle.conn_drivers.specs.Prepares.{error_by}
use Rattle.conn_drivers.specs.Queried.{DoesNothing, Goes, LeavesOf, known_of}
use Rattle.conn_drivers.specs.declared.statement.Statement.{Statement}

-- ---- the run

-- the rows of a run are there, and an honest server tells them
pub record HasRows (honest : Bool) (sql : List ℕ) (s : Seen) : Type 0 where
  pub given : s.given ≡ 0
  pub rows : honest ≡ true → s.rows ≡ Some (rows_of s.armed sql)

-- an accepted run has its rows, a refused one asks none
abbrev pub BeginsIf : {T : Type 0} → Bool → List ℕ → Seen → Seen → Result T Error → Type 0
BeginsIf honest sql old new result = MatchResult result (λ _. HasRows honest sql new) (λ _. new.given ≡ old.given)

-- what is left of a load after its run: its rows are asked, or it is over with its error
abbrev pub after_start : {T : Type 0} → Gathering → Dialect → QueryView → Result T Error → Status → Known → Process (Asked (List Values))
after_start gather d q (Ok x) s c = looks gather d q 0 s c
after_start gather d q (Err e) s c = finishes q.sql (Err e) s c

-- a query was run by a statement of so many columns, and its rows are asked next
abbrev pub RunsRows : {T : Type 0} → Bool → QueryView → ℕ → Seen → Seen → Status → Status → Result T Error → Type 0
RunsRows honest q columns old new s s1 result = (gather : Gathering) (d : Dialect) → d ≡ old.dialect → (k : Known) (told : Heeded) → Goes honest (runs_with true d q (looks gather d q) columns s k) (after_start gather d q result s1 k) old new told told

-- the open statements once that of a load is closed, where it is no kept one
abbrev pub shut_by : List Opened → Result (Option ℕ) Error → List Opened
shut_by os (Ok (Some n)) = without_open n os
shut_by os (Ok None) = os
shut_by os (Err e) = os

-- what is seen of a server then
abbrev pub seen_shut : Option ℕ → Seen → Seen
seen_shut (Some n) s = closes n s
seen_shut None s = s

-- a query on a wire was run, and its rows are asked next
abbrev pub Starts : {W I T : Type 0} → Bool → QueryView → (W → Seen) → (W → Status) → (I → Heeded) → W → W → Cache Statement → Cache Statement → I → I → Result T Error → Type 0
Starts honest q seen status told w w' c c' i i' result = DoesNothing w w' c c' i i' result ⊎ ((gather : Gathering) → LeavesOf honest q seen status told w w' c c' i i' true (looks gather (seen w).dialect q) (after_start gather (seen w).dialect q result (status w') (known_of c')))

-- ---- rows

-- a row was refused, and the status follows
pub record RefusedRow (old new : Seen) (s s1 : Status) (e : Error) : Type 0 where
  pub refusal : Refusal
  pub is : e ≡ error_by refusal
  pub refuses : RefusesRow old new refusal
  pub follows : s1 ≡ retold old.dialect (Some refusal) new.told s

-- memory was wanting for a row, and nothing happened
pub record LacksRow (old new : Seen) (s s1 : Status) (e : Error) : Type 0 where
  pub is : e ≡ OutOfMemory
  pub seen : new ≡ old
  pub status : s1 ≡ s

-- the next row was asked
abbrev pub TakesRow : Seen → Seen → Status → Status → Result (Option Values) Error → Type 0
TakesRow old new s s1 (Ok (Some row)) = GivenRow old new row × (s1 ≡ s)
TakesRow old new s s1 (Ok None) = NoRow old new × (s1 ≡ s)
TakesRow old new s s1 (Err e) = LacksRow old new s s1 e ⊎ RefusedRow old new s s1 e

-- the error of a row that the handler is told of: want of memory is none
abbrev pub row_error : Error → Option Error
row_error OutOfMemory = None
row_error e = Some e

-- these rows were given, and nothing else changed
pub record HasRead (old new : Seen) (front : List Values) : Type 0 where
  pub given : new.given ≡ old.given + length front
  pub left : old.rows_left ≡ new.rows_left + length front
  pub rows : old.rows ≡ option_map (λ (rest : List Values). front ++ rest) new.rows
  pub keeps : new ≡ record old { given = new.given; rows_left = new.rows_left; rows = new.rows }

-- a row was refused at last, and the status follows; or none was
abbrev pub EndsReading : Option Refusal → Seen → Seen → Status → Status → Type 0
EndsReading None mid new s s1 = (new ≡ mid) × (s1 ≡ s)
EndsReading (Some r) mid new s s1 = RefusesRow mid new r × (s1 ≡ retold mid.dialect (Some r) new.told s)

-- rows were asked: these were given, and then one was refused or none
pub record Looks (old new : Seen) (s s1 : Status) (front : List Values) (refusal : Option Refusal) : Type 0 where
  pub mid : Seen
  pub read : HasRead old mid front
  pub ending : EndsReading refusal mid new s s1

-- the rows of a run, also those that weren't asked; none after a refused one
abbrev pub all_rows : Option Refusal → List Values → Seen → List Values
all_rows None front new = front ++ unwrap_or new.rows []
all_rows (Some r) front new = []

-- ---- what is made of them

-- what rows are made into, or their error
abbrev pub AnswersFor : {T : Type 0} → (List Values → Result T Error → Type 0) → Result (List Values) Error → Result T Error → Type 0
AnswersFor makes (Ok rows) reply = makes rows reply
AnswersFor makes (Err e) reply = reply ≡ Err e

module _ {T : Type 0} (left : Gathering → Result (List Values) Error → Type 0) (makes : List Values → Result T Error → Type 0) (error : Option Error) (reply : Result T Error) where
  -- rows were heard, the handler is told of a refused one, and they are made into the reply, but for want of memory for it
  pub record MakesRows : Type 0 where
    pub rows : Result (List Values) Error
    pub leaves : left rows_heard rows
    pub told : error ≡ result_err rows
    pub answers : AnswersFor makes rows reply ⊎ (reply ≡ Err OutOfMemory)

  -- memory was wanting for rows that are all held at once, and the handler is told this
  pub record LosesRows : Type 0 where
    pub leaves : left rows_lost (Err OutOfMemory)
    pub told : error ≡ Some OutOfMemory
    pub is : reply ≡ Err OutOfMemory

  -- the rows were made into the reply, or lost
  abbrev pub Makes : Type 0
  Makes = LosesRows ⊎ MakesRows

-- rows of a wire were asked, by which these are the rows of the run, or those of its refusal
pub record LooksFor (old new : Seen) (s s1 : Status) (gather : Gathering) (rows : Result (List Values) Error) : Type 0 where
  pub front : List Values
  pub refusal : Option Refusal
  pub looks : Looks old new s s1 front refusal
  pub gathers : rows ≡ gather refusal (all_rows refusal front new)

-- all rows were asked where a list was made, or one at most
abbrev pub AsksBy : {A : Type 0} → Bool → Seen → Seen → Result A Error → Type 0
AsksBy true old new result = AsksAll new result
AsksBy false old new result = AsksOne old new

-- a load on a wire with its cache and its handler, from the look-up on
module _ {W I T : Type 0} (honest : Bool) (q : QueryView) (seen : W → Seen) (status : W → Status) (told : I → Heeded) (w w' : W) (c c' : Cache Statement) (i i' : I) (makes : List Values → Result T Error → Type 0) (error : Option Error) (reply : Result T Error) where
  -- this is left of it, by what is made of its rows
  abbrev pub LeavesRows : Gathering → Result (List Values) Error → Type 0
  LeavesRows gather rows = LeavesOf honest q seen status told w w' c c' i i' true (looks gather (seen w).dialect q) (finishes q.sql rows (status w') (known_of c'))

  -- for want of memory nothing was done, and the handler is told this
  pub record Rests : Type 0 where
    pub told_of : error ≡ Some OutOfMemory
    pub nothing : DoesNothing w w' c c' i i' reply

  -- it is answered
  abbrev pub LoadsOn : Type 0
  LoadsOn = Rests ⊎ Makes LeavesRows makes error reply
