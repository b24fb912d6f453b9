-- A session whose queries load rows: in order, up to a refused one, up to one that doesn't fit the shape, and the first one alone.
use Rattle.std.proofs.Common.{◌≡◌, ℕ, pos, true, false, List, [], ◌∷◌, codes, refl, Some, None, Ok, Err}
use Rattle.std.specs.Prelude.{◌==◌, if◌then◌else◌}
use Rattle.std.specs.Fmt.{digits}
use Rattle.std.specs.Option.{option_map}
use Rattle.conn_result.specs.declared.error.DatabaseErrorKind.TheVariants.{Unknown}
use Rattle.conn_result.specs.declared.error.Error.TheVariants.{DatabaseError, DeserializationError, NotFound}
use Rattle.conn_result.specs.declared.error.RowFault.TheVariants.{NoMetadata, UnexpectedEndOfRow, UnexpectedNull, WrongKind}
use Rattle.conn_model.specs.Armed.{Values}
use Rattle.conn_model.specs.Caches.{nothing_known}
use Rattle.conn_model.specs.Classes.{class, is_begin, is_built, is_write, same_text, begins, number_behind}
use Rattle.conn_model.specs.Process.{row_refused}
use Rattle.conn_model.specs.States.{Idle}
use Rattle.conn_model.specs.declared.item.Answer.TheVariants.{Accepted}
use Rattle.conn_model.specs.declared.item.Call.{Call}
use Rattle.conn_model.specs.declared.item.Call.TheVariants.{Prepare, Run}
use Rattle.conn_model.specs.declared.item.Dialect.TheVariants.{Mysql, Sqlite}
use Rattle.conn_model.specs.declared.item.Effect.TheVariants.{Stays}
use Rattle.conn_model.specs.declared.item.Item.{Item}
use Rattle.conn_model.specs.declared.item.Refusal.{Refusal}
use Rattle.conn_model.specs.declared.plan.PlanLine.TheVariants.{Rows}
use Rattle.conn_model.specs.declared.value.Value.TheVariants as values
use Rattle.conn_manager.specs.Statuses.{no_depth}
use Rattle.conn_cache.specs.Keys.{same_types}
use Rattle.conn_report.specs.declared.entry.Entry.{Entry}
use Rattle.conn_report.specs.declared.entry.Reply.TheVariants as replies
use Rattle.conn_script.specs.Drafts.{empty_script}
use Rattle.conn_script.specs.Headers.{plain_header}
use Rattle.conn_script.specs.declared.command.Act.TheVariants as acts
use Rattle.conn_script.specs.declared.command.QueryCall.TheVariants.{Load, One, Optional}
use Rattle.conn_script.specs.declared.command.Script.{Script}
use Rattle.conn_script.specs.declared.command.Word.TheVariants as words
use Rattle.conn_script.specs.declared.query.Declared.{Declared}
use Rattle.conn_script.specs.declared.query.Safety.TheVariants.{Safe}
use Rattle.conn_script.specs.declared.shape.ShapeKind.TheVariants as kinds
use Rattle.conn_reading.specs.Answered.{ServerLogs, answered}
use Rattle.conn_reading.specs.Asking.{Outcome, process_of}
use Rattle.conn_reading.specs.Reading.{Read, read}
use Rattle.conn_reading.specs.RowShapes.{RowShape, shape_reads}
use Rattle.conn_reading.specs.Seats.{make_entry}
use Rattle.conn_reading.specs.declared.deed.Deed.TheVariants as deeds

abbrev query : ℕ → RowShape → List ℕ → Declared
query n shape text = record { number = n; safety = Safe; id = None; binds = []; shape = shape; text = text }

abbrev first_row : Values
first_row = values.Int (pos 7) ∷ values.Text (codes "x") ∷ values.Null ∷ []

abbrev second_row : Values
second_row = values.Int (pos 8) ∷ values.Null ∷ values.Null ∷ []

abbrev loading_script : Script
loading_script = record (empty_script (plain_header Sqlite)) {
  plan = Rows (codes "SELECT a") first_row ∷ Rows (codes "SELECT a") second_row ∷ [];
  queries =
      query 0 (Some ((kinds.Int, false) ∷ (kinds.Text, true) ∷ [])) (codes "SELECT a")
      ∷ query 1 (Some ((kinds.Int, false) ∷ (kinds.Text, false) ∷ [])) (codes "SELECT a")
      ∷ query 2 None (codes "SELECT b")
      ∷ [];
  commands =
      record { line = 7; act = acts.Get }
      ∷ record { line = 8; act = acts.Query Load 0 0 }
      ∷ record { line = 9; act = acts.Query Load 0 0 }
      ∷ record { line = 10; act = acts.Query Load 0 1 }
      ∷ record { line = 11; act = acts.Query One 0 1 }
      ∷ record { line = 12; act = acts.Query One 0 2 }
      ∷ record { line = 13; act = acts.Query Optional 0 2 }
      ∷ [];
}

abbrev accepted : Call → List ℕ → Item
accepted call text = record { call = call; text = text; answer = Accepted }

abbrev busy : Refusal
busy = record { code = pos 5; kind = Unknown }

abbrev loaded_log : List Item
loaded_log =
    accepted (Prepare (Some 1)) (codes "SELECT a")
    ∷ accepted (Run []) (codes "SELECT a")
    ∷ accepted (Run []) (codes "SELECT a")
    ∷ row_refused busy Stays
    ∷ accepted (Run []) (codes "SELECT a")
    ∷ accepted (Run []) (codes "SELECT a")
    ∷ accepted (Prepare (Some 2)) (codes "SELECT b")
    ∷ accepted (Run []) (codes "SELECT b")
    ∷ accepted (Run []) (codes "SELECT b")
    ∷ []

abbrev loaded_logs : ServerLogs
loaded_logs n = if n == 0 then loaded_log else []

abbrev loaded_entries : List Entry
loaded_entries =
    make_entry 7 words.Get (Some 0) replies.Ok (Some no_depth) (Some 0)
    ∷ make_entry 8 words.Load (Some 0) (replies.Rows (first_row ∷ second_row ∷ [])) (Some no_depth) (Some 2)
    ∷ make_entry 9 words.Load (Some 0) (replies.Error (DatabaseError Unknown (pos 5))) (Some no_depth) (Some 4)
    ∷ make_entry 10 words.Load (Some 0) (replies.Error (DeserializationError (UnexpectedNull 1))) (Some no_depth) (Some 5)
    ∷ make_entry 11 words.One (Some 0) (replies.OneRow first_row) (Some no_depth) (Some 6)
    ∷ make_entry 12 words.One (Some 0) (replies.Error NotFound) (Some no_depth) (Some 8)
    ∷ make_entry 13 words.Optional (Some 0) replies.NoRow (Some no_depth) (Some 9)
    ∷ []

loads_answer : answered loading_script loaded_logs ≡ Some loaded_entries
unfolding class is_begin is_built is_write same_text same_types begins number_behind digits
loads_answer = refl

-- MySQL tells no columns of an update, so that none of its rows can be loaded, and it isn't run
update_lacks_metadata : option_map (λ (r : Read Outcome). r.value.reply) (read Mysql [] (Idle []) (process_of Mysql (query 0 None (codes "UPDATE a") ∷ []) no_depth nothing_known (deeds.Query Load 0)) (accepted (Prepare (Some 1)) (codes "UPDATE a") ∷ [])) ≡ Some (replies.Error (DeserializationError NoMetadata))
unfolding class is_begin is_built is_write same_text same_types begins number_behind digits
update_lacks_metadata = refl

abbrev numbered : RowShape
numbered = Some ((kinds.Int, false) ∷ (kinds.Text, true) ∷ [])

-- the first column that doesn't fit decides, and a row that ends before the shape does has none for the next one
short_row_ends : shape_reads numbered (values.Int (pos 7) ∷ []) ≡ Err UnexpectedEndOfRow
short_row_ends = refl

text_is_no_number : shape_reads numbered (values.Text (codes "x") ∷ []) ≡ Err (WrongKind 0)
text_is_no_number = refl

every_row_will_do : shape_reads None [] ≡ Ok []
every_row_will_do = refl
