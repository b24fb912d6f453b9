-- Sessions whose connections set themselves up: one is refused, the next is handed out.
use Rattle.std.proofs.Common.{◌≡◌, ℕ, pos, List, [], ◌∷◌, ◌++◌, codes, refl, Some, None}
use Rattle.std.specs.Prelude.{◌==◌, if◌then◌else◌}
use Rattle.std.specs.Option.{option_map}
use Rattle.conn_result.specs.declared.error.ConnectionError.TheVariants.{CouldntSetupConfiguration}
use Rattle.conn_result.specs.declared.error.DatabaseErrorKind.TheVariants.{Unknown}
use Rattle.conn_result.specs.declared.error.Error.TheVariants.{DatabaseError}
use Rattle.conn_result.specs.declared.pool.Error.TheVariants as pooling
use Rattle.conn_model.specs.Classes.{class, is_begin, is_built, is_write, same_text, begins, number_behind}
use Rattle.conn_model.specs.declared.item.Answer.{Answer}
use Rattle.conn_model.specs.declared.item.Answer.TheVariants.{Accepted, Refused}
use Rattle.conn_model.specs.declared.item.Call.{Call}
use Rattle.conn_model.specs.declared.item.Call.TheVariants.{Prepare, Run}
use Rattle.conn_model.specs.declared.item.Dialect.TheVariants.{Pg, Mysql}
use Rattle.conn_model.specs.declared.item.Effect.TheVariants.{Stays}
use Rattle.conn_model.specs.declared.item.Item.{Item}
use Rattle.conn_model.specs.States.{Idle}
use Rattle.conn_manager.specs.Manages.{Done}
use Rattle.conn_manager.specs.Setups.{setup_process}
use Rattle.conn_manager.specs.Statuses.{no_depth}
use Rattle.conn_report.specs.declared.entry.Entry.{Entry}
use Rattle.conn_report.specs.declared.entry.Reply.TheVariants as replies
use Rattle.conn_script.specs.Drafts.{empty_script}
use Rattle.conn_script.specs.Headers.{plain_header}
use Rattle.conn_script.specs.declared.command.Act.TheVariants as acts
use Rattle.conn_script.specs.declared.command.Script.{Script}
use Rattle.conn_script.specs.declared.command.Word.TheVariants as words
use Rattle.conn_reading.specs.Answered.{ServerLogs, answered}
use Rattle.conn_reading.specs.Reading.{Read, read}
use Rattle.conn_reading.specs.Seats.{make_entry}

abbrev item : Call → List ℕ → Answer → Item
item call text answer = record { call = call; text = text; answer = answer }

abbrev zone : List ℕ
zone = codes "SET TIME ZONE 'UTC'"

abbrev encoding : List ℕ
encoding = codes "SET CLIENT_ENCODING TO 'UTF8'"

-- ---- PostgreSQL runs its two at once; where the second is refused the slot is filled by another server

abbrev two_gets : Script
two_gets = record (empty_script (plain_header Pg)) { commands = record { line = 2; act = acts.Get } ∷ record { line = 3; act = acts.Get } ∷ [] }

abbrev logs : ServerLogs
logs n =
    if n == 0 then item (Run []) zone Accepted ∷ item (Run []) encoding (Refused (record { code = pos 7; kind = Unknown }) Stays) ∷ []
    else if n == 1 then item (Run []) zone Accepted ∷ item (Run []) encoding Accepted ∷ []
    else []

abbrev entries : List Entry
entries =
    make_entry 2 words.Get (Some 0) (replies.Pool (pooling.ConnectionError (CouldntSetupConfiguration (DatabaseError Unknown (pos 7)) 0))) None (Some 2)
    ∷ make_entry 3 words.Get (Some 1) replies.Ok (Some no_depth) (Some 2)
    ∷ []

they_answer : answered two_gets logs ≡ Some entries
unfolding class is_begin is_built is_write same_text begins number_behind
they_answer = refl

-- ---- MySQL prepares each of its four and runs it

abbrev executed : List ℕ → List Item
executed text = item (Prepare None) text Accepted ∷ item (Run []) text Accepted ∷ []

abbrev mysql_log : List Item
mysql_log = executed (codes "SET time_zone = '+00:00';") ++ executed (codes "SET character_set_client = 'utf8mb4'") ++ executed (codes "SET character_set_connection = 'utf8mb4'") ++ executed (codes "SET character_set_results = 'utf8mb4'")

they_are_read : option_map (λ (r : Read Done). r.left) (read Mysql [] (Idle []) (setup_process Mysql no_depth) mysql_log) ≡ Some []
unfolding class is_begin is_built is_write same_text begins number_behind
they_are_read = refl

-- ---- nothing else is read

abbrev one_get : Script
one_get = record (empty_script (plain_header Pg)) { commands = record { line = 2; act = acts.Get } ∷ [] }

abbrev log : List Item
log = item (Run []) zone Accepted ∷ item (Run []) encoding Accepted ∷ []

it_answers : answered one_get (λ n. if n == 0 then log else []) ≡ Some (make_entry 2 words.Get (Some 0) replies.Ok (Some no_depth) (Some 2) ∷ [])
unfolding class is_begin is_built is_write same_text begins number_behind
it_answers = refl

-- an item more than the setup asks is left unread, so there is no answer
one_is_left : answered one_get (λ n. if n == 0 then log ++ item (Run []) (codes "SELECT a") Accepted ∷ [] else []) ≡ None
unfolding class is_begin is_built is_write same_text begins number_behind
one_is_left = refl
