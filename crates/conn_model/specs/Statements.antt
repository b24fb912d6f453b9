-- What the calls of a server do that open, run and close statements, and what is heard of them.
use Rattle.std.specs.Prelude.{◌≡◌, ℕ, ◌+◌, ◌≤◌, nat_eq, if◌then◌else◌, List, [], ◌∷◌, length, sum_by, Option, Some, None, Result, Ok, Err, IfOk, IfSome, MatchResult, OnErr, OnOk}
use Rattle.std.specs.Option.{option_map, unwrap_or}
use Rattle.conn_result.specs.Causes.{Rose}
use Rattle.conn_model.specs.Seen.{Seen, Opened, Ran, Values}
use Rattle.conn_model.specs.Served.{Logs, IsDue, one_more}
use Rattle.conn_model.specs.Process.{Heard, plain_heard}
use Rattle.conn_model.specs.declared.item.Call.{Call}
use Rattle.conn_model.specs.declared.item.Call.TheVariants.{Prepare, Run}
use Rattle.conn_model.specs.declared.item.Refusal.{Refusal}
use Rattle.conn_model.specs.declared.item.Told.{Told}
use Rattle.conn_model.specs.declared.reply.Prepared.{Prepared}
use Rattle.conn_model.specs.declared.reply.RunReply.{RunReply}
use Rattle.conn_model.specs.declared.reply.RunSource.{RunSource}
use Rattle.conn_model.specs.declared.reply.RunSource.TheVariants as source
use Rattle.conn_model.specs.declared.value.Bind.{Bind}
use Rattle.conn_model.specs.declared.value.Value.{Value}
use Rattle.conn_model.specs.declared.value.Value.TheVariants as value

-- the open statement of this number
abbrev pub find_open : ℕ → List Opened → Option Opened
find_open n [] = None
find_open n (o ∷ os) = if nat_eq o.statement n then Some o else find_open n os

-- the open statements of other numbers
abbrev pub without_open : ℕ → List Opened → List Opened
without_open n [] = []
without_open n (o ∷ os) = if nat_eq o.statement n then without_open n os else o ∷ without_open n os

-- the text that a source runs, where it is one or its statement is open
abbrev pub source_text : List Opened → RunSource → Option (List ℕ)
source_text os (source.Prepared n) = option_map (λ (o : Opened). o.text) (find_open n os)
source_text os (source.Unnamed text) = Some text.now

-- the text of a source that has one
abbrev pub text_of : List Opened → RunSource → List ℕ
text_of os source = unwrap_or (source_text os source) []

-- the bytes of a value
abbrev pub value_bytes : Value → ℕ
value_bytes value.Null = 0
value_bytes (value.Int n) = 0
value_bytes (value.Text t) = length t
value_bytes (value.Bytes b) = length b

-- the bytes that a bind needs: those of its value, and 32
abbrev pub bind_bytes : Bind → ℕ
bind_bytes b = value_bytes b.value + 32

-- the bytes that binds need
abbrev pub binds_bytes : List Bind → ℕ
binds_bytes binds = sum_by bind_bytes binds

-- the bytes that a run needs
abbrev pub run_bytes : List ℕ → List Bind → ℕ
run_bytes text binds = length text + binds_bytes binds

-- one call was sent and answered, whatever else it changes: it appended its item and used up no more room than this; a
-- refusal was due and counted, and nothing else is
pub record Appends {T : Type 0} (call : Call) (text : List ℕ) (most_items most_bytes : ℕ) (old new : Seen) (result : Result T Refusal) : Type 0 where
  pub log : Logs old.log call text result new.log
  pub sent : new.sent ≡ one_more old.sent
  pub items : old.item_room ≤ new.item_room + most_items
  pub bytes : old.byte_room ≤ new.byte_room + most_bytes
  pub later : old.failures ≤ new.failures
  pub failed : OnErr result (Rose old.failures new.failures)
  pub unfailed : OnOk result (new.failures ≡ old.failures)
  pub due : OnErr result (IsDue old call text)

-- an accepted prepare opens its statement, a refused one none
abbrev pub opened_by : List ℕ → Result Prepared Refusal → List Opened → List Opened
opened_by text (Ok p) os = record { statement = p.statement; text = text; columns = p.columns } ∷ os
opened_by text (Err r) os = os

-- a text was prepared, under a name or none; its statement has the number of no other open one
pub record Prepares (name : Option ℕ) (text : List ℕ) (old new : Seen) (result : Result Prepared Refusal) : Type 0 where
  pub appends : Appends (Prepare name) text 1 (length text) old new result
  pub fresh : IfOk result (λ p. find_open p.statement old.open_statements ≡ None)
  pub opens : new.open_statements ≡ opened_by text result old.open_statements
  pub keeps : new ≡ record old { log = new.log; told = new.told; sent = new.sent; failures = new.failures; item_room = new.item_room; byte_room = new.byte_room; open_statements = new.open_statements }

-- the last run is an accepted one, with its text; a refused one leaves the one before it
abbrev pub ran_by : List ℕ → Result RunReply Refusal → Option Ran → Option Ran
ran_by text (Ok r) last = Some (record { text = text; affected = r.affected; columns = r.columns })
ran_by text (Err r) last = last

-- no row of the run was given yet; its rows are counted, where they are told
pub record BeginsRows (new : Seen) : Type 0 where
  pub given : new.given ≡ 0
  pub counts : IfSome new.rows (λ (rows : List Values). new.rows_left ≡ length rows)

-- the rows that were left are left
pub record KeepsRows (old new : Seen) : Type 0 where
  pub given : new.given ≡ old.given
  pub left : new.rows_left ≡ old.rows_left
  pub rows : new.rows ≡ old.rows

-- an accepted run begins its rows, a refused one leaves those of the one before it
abbrev pub RowsAfter : {T E : Type 0} → Seen → Seen → Result T E → Type 0
RowsAfter old new result = MatchResult result (λ _. BeginsRows new) (λ _. KeepsRows old new)

-- a text was run with binds; room was used up for one item more, a row of it that is refused
pub record Runs (text : List ℕ) (binds : List Bind) (old new : Seen) (result : Result RunReply Refusal) : Type 0 where
  pub appends : Appends (Run binds) text 2 (run_bytes text binds) old new result
  pub last : new.last ≡ ran_by text result old.last
  pub rows : RowsAfter old new result
  pub keeps : new ≡ record old { log = new.log; told = new.told; sent = new.sent; failures = new.failures; item_room = new.item_room; byte_room = new.byte_room; last = new.last; given = new.given; rows_left = new.rows_left; rows = new.rows }

-- the statement of a number was closed, where one was open
abbrev pub closes : ℕ → Seen → Seen
closes statement s = record s { open_statements = without_open statement s.open_statements }

-- what is heard of a prepare
abbrev pub prepared_heard : Result Prepared Refusal → Told → Heard
prepared_heard (Ok p) told = record { refusal = None; told = told; columns = p.columns; affected = 0; rows = [] }
prepared_heard (Err r) told = plain_heard (Some r) told

-- what is heard of a run
abbrev pub ran_heard : Result RunReply Refusal → Told → Heard
ran_heard (Ok r) told = record { refusal = None; told = told; columns = r.columns; affected = r.affected; rows = [] }
ran_heard (Err r) told = plain_heard (Some r) told
