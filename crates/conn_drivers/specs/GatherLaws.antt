-- What is made of rows is no refusal of a server.
use Rattle.std.specs.Global.{Vec}
use Rattle.std.specs.Prelude.{◌≡◌, refl, Bool, true, false, List, [], ◌∷◌, Result, Ok, Err}
use Rattle.std.proofs.Common.{ap, subst, ◌∙◌}
use Rattle.conn_result.specs.declared.error.Error.{Error}
use Rattle.conn_result.specs.declared.error.RowFault.{RowFault}
use Rattle.conn_model.specs.Armed.{Values}
use Rattle.conn_model.specs.declared.item.Dialect.{Dialect}
use Rattle.conn_model.specs.declared.item.Dialect.TheVariants.{Pg, Mysql, Sqlite}
use Rattle.conn_cache.specs.QueryProcesses.{without_value}
use Rattle.conn_manager.specs.Manages.{IsRefusal}
use Rattle.conn_rows.specs.Answers.{row_answer}
use Rattle.conn_rows.specs.Lists.{Reading, rows_read, list_answer, first_answer}
use Rattle.conn_drivers.specs.Loaded.{listed}

-- where the first row alone is wanted, PostgreSQL alone is asked for all
abbrev pub asks_all_first : Dialect → Bool
asks_all_first Pg = true
asks_all_first Mysql = false
asks_all_first Sqlite = false

-- a list of the rows
abbrev pub MakesList : {T : Type 0} → Reading T → List Values → Result (Vec T) Error → Type 0
MakesList reads rows reply = listed reply ≡ list_answer reads rows

-- the rows themselves
abbrev pub MakesHeld : List Values → Result (Vec Values) Error → Type 0
MakesHeld rows reply = listed reply ≡ Ok rows

-- the first of them
abbrev pub MakesFirst : {T : Type 0} → Reading T → List Values → Result T Error → Type 0
MakesFirst reads rows reply = reply ≡ first_answer reads rows

read_refusal : {T U : Type 0} (r : Result T RowFault) (reply : Result U Error) → without_value reply ≡ without_value (row_answer r) → IsRefusal (without_value reply) → ⊥
read_refusal (Ok x) reply e h = subst IsRefusal e h
read_refusal (Err fault) reply e h = subst IsRefusal e h

without_list : {T : Type 0} (r : Result (Vec T) Error) → without_value r ≡ without_value (listed r)
without_list (Ok v) = refl
without_list (Err e) = refl

-- a list of rows
pub list_law : {T : Type 0} (reads : Reading T) (rows : List Values) (reply : Result (Vec T) Error) → MakesList reads rows reply → IsRefusal (without_value reply) → ⊥
list_law reads rows reply is h = read_refusal (rows_read reads rows) reply (without_list reply ∙ ap without_value is) h

-- the first row
pub first_law : {T : Type 0} (reads : Reading T) (rows : List Values) (reply : Result T Error) → MakesFirst reads rows reply → IsRefusal (without_value reply) → ⊥
first_law reads [] reply is h = subst (λ (r : Result _ Error). IsRefusal (without_value r)) is h
first_law reads (row ∷ rows) reply is h = read_refusal (reads row) reply (ap without_value is) h

-- the rows themselves
pub held_law : (rows : List Values) (reply : Result (Vec Values) Error) → MakesHeld rows reply → IsRefusal (without_value reply) → ⊥
held_law rows reply is h = subst IsRefusal (without_list reply ∙ ap without_value is) h
