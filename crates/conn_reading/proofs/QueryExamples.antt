-- A session with queries: one known by its number, one by its text; a refused prepare uses up its number; another size empties the
-- cache.
use Rattle.std.proofs.Common.{◌≡◌, ℕ, pos, List, [], ◌∷◌, codes, refl, Some, None}
use Rattle.std.specs.Prelude.{◌==◌, if◌then◌else◌}
use Rattle.std.specs.Fmt.{digits}
use Rattle.conn_result.specs.declared.error.DatabaseErrorKind.TheVariants.{Unknown}
use Rattle.conn_result.specs.declared.error.Error.TheVariants.{DatabaseError}
use Rattle.conn_model.specs.Classes.{class, is_begin, is_built, is_write, same_text, begins, number_behind}
use Rattle.conn_model.specs.declared.item.Answer.{Answer}
use Rattle.conn_model.specs.declared.item.Answer.TheVariants.{Accepted, Refused}
use Rattle.conn_model.specs.declared.item.Call.{Call}
use Rattle.conn_model.specs.declared.item.Call.TheVariants.{Prepare, Run}
use Rattle.conn_model.specs.declared.item.Dialect.TheVariants.{Sqlite}
use Rattle.conn_model.specs.declared.item.Effect.TheVariants.{Stays}
use Rattle.conn_model.specs.declared.item.Item.{Item}
use Rattle.conn_model.specs.declared.cache.CacheSize.TheVariants.{Disabled}
use Rattle.conn_manager.specs.Statuses.{no_depth}
use Rattle.conn_cache.specs.Keys.{same_types}
use Rattle.conn_report.specs.declared.entry.Entry.{Entry}
use Rattle.conn_report.specs.declared.entry.Reply.TheVariants as replies
use Rattle.conn_script.specs.Drafts.{empty_script}
use Rattle.conn_script.specs.Headers.{plain_header}
use Rattle.conn_script.specs.declared.command.Act.TheVariants as acts
use Rattle.conn_script.specs.declared.command.QueryCall.TheVariants as query_calls
use Rattle.conn_script.specs.declared.command.Script.{Script}
use Rattle.conn_script.specs.declared.command.Word.TheVariants as words
use Rattle.conn_script.specs.declared.query.Declared.{Declared}
use Rattle.conn_script.specs.declared.query.Safety.TheVariants.{Safe}
use Rattle.conn_reading.specs.Answered.{ServerLogs, answered}
use Rattle.conn_reading.specs.Asking.{policy_of}
use Rattle.conn_reading.specs.Owning.{names_of}
use Rattle.conn_reading.specs.Seats.{make_entry}
use Rattle.conn_reading.specs.Sessions.{unfolded, fold_entries}

abbrev query_a : Declared
query_a = record { number = 0; safety = Safe; id = Some 7; binds = []; shape = None; text = codes "UPDATE a" }

abbrev query_b : Declared
query_b = record { number = 1; safety = Safe; id = None; binds = []; shape = None; text = codes "UPDATE b" }

abbrev asking_script : Script
asking_script = record (empty_script (plain_header Sqlite)) {
  queries = query_a ∷ query_b ∷ [];
  commands =
      record { line = 5; act = acts.Get }
      ∷ record { line = 6; act = acts.Query query_calls.Exec 0 0 }
      ∷ record { line = 7; act = acts.Query query_calls.Exec 0 0 }
      ∷ record { line = 8; act = acts.Query query_calls.Exec 0 1 }
      ∷ record { line = 9; act = acts.Query query_calls.Exec 0 1 }
      ∷ record { line = 10; act = acts.Cache 0 Disabled }
      ∷ record { line = 11; act = acts.Query query_calls.Exec 0 0 }
      ∷ record { line = 12; act = acts.Ping 0 }
      ∷ [];
}

abbrev item : Call → List ℕ → Answer → Item
item call text answer = record { call = call; text = text; answer = answer }

abbrev busy : Answer
busy = Refused (record { code = pos 1; kind = Unknown }) Stays

abbrev asked_log : List Item
asked_log =
    item (Prepare (Some 1)) (codes "UPDATE a") Accepted
    ∷ item (Run []) (codes "UPDATE a") Accepted
    ∷ item (Run []) (codes "UPDATE a") Accepted
    ∷ item (Prepare (Some 2)) (codes "UPDATE b") busy
    ∷ item (Prepare (Some 3)) (codes "UPDATE b") Accepted
    ∷ item (Run []) (codes "UPDATE b") Accepted
    ∷ item (Prepare None) (codes "UPDATE a") Accepted
    ∷ item (Run []) (codes "UPDATE a") Accepted
    ∷ item (Prepare None) (codes "SELECT 1") Accepted
    ∷ item (Run []) (codes "SELECT 1") Accepted
    ∷ []

abbrev asked_logs : ServerLogs
asked_logs n = if n == 0 then asked_log else []

abbrev asked_entries : List Entry
asked_entries =
    make_entry 5 words.Get (Some 0) replies.Ok (Some no_depth) (Some 0)
    ∷ make_entry 6 words.Exec (Some 0) (replies.Count 1) (Some no_depth) (Some 2)
    ∷ make_entry 7 words.Exec (Some 0) (replies.Count 1) (Some no_depth) (Some 3)
    ∷ make_entry 8 words.Exec (Some 0) (replies.Error (DatabaseError Unknown (pos 1))) (Some no_depth) (Some 4)
    ∷ make_entry 9 words.Exec (Some 0) (replies.Count 1) (Some no_depth) (Some 6)
    ∷ make_entry 10 words.CacheSize (Some 0) replies.Ok (Some no_depth) (Some 6)
    ∷ make_entry 11 words.Exec (Some 0) (replies.Count 1) (Some no_depth) (Some 8)
    ∷ make_entry 12 words.Ping (Some 0) replies.Ok (Some no_depth) (Some 10)
    ∷ []

queries_answer : answered asking_script asked_logs ≡ Some asked_entries
unfolding class is_begin is_built is_write same_text same_types begins number_behind digits
queries_answer = refl

names_are : names_of asked_log ≡ 1 ∷ 2 ∷ 3 ∷ []
names_are = refl

queries_fold : (fold_entries 0 asked_log asking_script.commands asked_entries (unfolded (policy_of asking_script))).stack.lowest ≡ codes "UPDATE a" ∷ codes "UPDATE a" ∷ codes "UPDATE b" ∷ codes "UPDATE a" ∷ []
unfolding class is_begin is_built is_write same_text begins number_behind digits
queries_fold = refl
