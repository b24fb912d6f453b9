-- How the rows of a run are read: held at once, one after the other, or skipped.
use Rattle.std.specs.Prelude.{◌≡◌, ◌⊎◌, ⊤, List, [], ◌∷◌, ◌++◌, Option, Some, None, Result, Ok, Err, MatchResult}
use Rattle.conn_result.specs.declared.error.Error.{Error}
use Rattle.conn_result.specs.declared.error.Error.TheVariants.{OutOfMemory}
use Rattle.conn_result.specs.declared.error.RowFault.{RowFault}
use Rattle.conn_model.specs.Armed.{Values}
use Rattle.conn_model.specs.Rows.{none_left}
use Rattle.conn_model.specs.Seen.{Seen}
use Rattle.conn_model.specs.declared.item.Refusal.{Refusal}
use Rattle.conn_manager.specs.Statuses.{Status}
use Rattle.conn_rows.specs.Answers.{row_answer}
use Rattle.conn_rows.specs.Lists.{Reading, rows_read}
use Rattle.conn_drivers.specs.Loading.{Looks}
use Rattle.conn_drivers.specs.Prepares.{error_by}

-- this is answered, but for want of memory
abbrev pub AnswersBy : {T : Type 0} → Result T Error → Result T Error → Type 0
AnswersBy whole reply = (reply ≡ whole) ⊎ (reply ≡ Err OutOfMemory)

-- memory was wanting, or the reader found a fault
abbrev pub FailsBy : {T : Type 0} → Result T RowFault → Error → Type 0
FailsBy read e = (e ≡ OutOfMemory) ⊎ (row_answer read ≡ Err e)

-- a value was read, and put behind the others
pub record PutsBehind {T : Type 0} (read : Result T RowFault) (old new : List T) : Type 0 where
  pub value : T
  pub is : read ≡ Ok value
  pub behind : new ≡ old ++ value ∷ []

-- so it was, but for a fault or want of memory
abbrev pub ReadsOnto : {T : Type 0} → Result T RowFault → List T → List T → Result (Unit {0}) Error → Type 0
ReadsOnto read old new result = MatchResult result (λ _. PutsBehind read old new) (λ e. FailsBy read e)

-- no row is left
pub record AreOver (s : Seen) : Type 0 where
  pub left : s.rows_left ≡ 0
  pub rows : s.rows ≡ none_left s.rows

-- the rows that were given, where no row was refused
abbrev pub HoldsBy : Option Refusal → List Values → Seen → Result (List Values) Error → Type 0
HoldsBy None front new (Ok rows) = (rows ≡ front) × AreOver new
HoldsBy None front new (Err e) = e ≡ OutOfMemory
HoldsBy (Some r) front new result = result ≡ Err (error_by r)

-- all rows that were left are held
pub record HoldsRows (old new : Seen) (s s1 : Status) (result : Result (List Values) Error) : Type 0 where
  pub front : List Values
  pub refusal : Option Refusal
  pub looks : Looks old new s s1 front refusal
  pub holds : HoldsBy refusal front new result

-- all that were given are read, up to the first fault
abbrev pub ReadsBy : {T : Type 0} → Reading T → Option Refusal → List Values → Seen → Option Error → Result (List T) Error → Type 0
ReadsBy reads None front new error (Ok values) = (error ≡ None) × (rows_read reads front ≡ Ok values) × AreOver new
ReadsBy reads None front new error (Err e) = (error ≡ None) × FailsBy (rows_read reads front) e
ReadsBy reads (Some r) front new error reply = (error ≡ Some (error_by r)) × (reply ≡ Err (error_by r))

-- the rows that were left are read one after the other
pub record ReadsRows {T : Type 0} (reads : Reading T) (old new : Seen) (s s1 : Status) (error : Option Error) (reply : Result (List T) Error) : Type 0 where
  pub front : List Values
  pub refusal : Option Refusal
  pub looks : Looks old new s s1 front refusal
  pub gives : ReadsBy reads refusal front new error reply

-- none is refused, but for want of memory
abbrev pub SkipsBy : Option Refusal → Result (Unit {0}) Error → Type 0
SkipsBy None (Ok u) = ⊤
SkipsBy None (Err e) = e ≡ OutOfMemory
SkipsBy (Some r) result = result ≡ Err (error_by r)

-- the rows that were left are asked, and let go
pub record SkipsRows (old new : Seen) (s s1 : Status) (result : Result (Unit {0}) Error) : Type 0 where
  pub front : List Values
  pub refusal : Option Refusal
  pub looks : Looks old new s s1 front refusal
  pub skips : SkipsBy refusal result
