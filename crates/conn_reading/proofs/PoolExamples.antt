-- Sessions whose pool asks a new connection to begin: in a test's transaction it is handed out and kept, and in another it is closed.
-- Where the pool checks, a kept connection is pinged, and closed where its ping is refused.
use Rattle.std.proofs.Common.{◌≡◌, ℕ, pos, true, false, List, [], ◌∷◌, codes, length, refl, Some, None}
use Rattle.std.specs.Prelude.{◌==◌, if◌then◌else◌}
use Rattle.std.specs.Fmt.{digits}
use Rattle.conn_result.specs.declared.error.DatabaseErrorKind.TheVariants.{Unknown}
use Rattle.conn_result.specs.declared.error.Error.TheVariants.{DatabaseError}
use Rattle.conn_result.specs.declared.pool.Error.TheVariants as pooling
use Rattle.conn_model.specs.Classes.{class, is_begin, is_built, is_write, same_text, begins, number_behind}
use Rattle.conn_model.specs.States.{Open, Mark}
use Rattle.conn_model.specs.declared.item.Answer.TheVariants.{Accepted, Refused}
use Rattle.conn_model.specs.declared.item.Call.{Call}
use Rattle.conn_model.specs.declared.item.Call.TheVariants.{Exec, Prepare, Run}
use Rattle.conn_model.specs.declared.item.Dialect.TheVariants.{Sqlite}
use Rattle.conn_model.specs.declared.item.Effect.TheVariants.{Stays}
use Rattle.conn_model.specs.declared.item.Item.{Item}
use Rattle.conn_manager.specs.Statuses.{Status, no_depth, at_depth}
use Rattle.conn_cache.specs.Keys.{same_types}
use Rattle.conn_report.specs.declared.entry.Entry.{Entry}
use Rattle.conn_report.specs.declared.entry.Reply.TheVariants as replies
use Rattle.conn_script.specs.Drafts.{empty_script}
use Rattle.conn_script.specs.declared.command.Act.TheVariants as acts
use Rattle.conn_script.specs.declared.command.Customizer.{Customizer}
use Rattle.conn_script.specs.declared.command.Customizer.TheVariants.{Nop, Test, Begin}
use Rattle.conn_script.specs.declared.command.Script.{Script}
use Rattle.conn_script.specs.declared.command.Word.TheVariants as words
use Rattle.conn_reading.specs.Answered.{ServerLogs, answered}
use Rattle.conn_reading.specs.Asking.{policy_of}
use Rattle.conn_reading.specs.Seats.{make_entry}
use Rattle.conn_reading.specs.Sessions.{EntryPremises, fold_entries, unfolded}
use Rattle.conn_reading.proofs.Premises.{lawful_premises}

-- get, begin, put, get, in a pool of one
abbrev pool_script : Customizer → Script
pool_script customizer = record (empty_script (record { dialect = Sqlite; max_size = 1; customizer = customizer; check = false })) {
  commands =
      record { line = 2; act = acts.Get }
      ∷ record { line = 3; act = acts.Begin 0 }
      ∷ record { line = 4; act = acts.Put 0 }
      ∷ record { line = 5; act = acts.Get }
      ∷ [];
}

abbrev item : Call → List ℕ → Item
item call text = record { call = call; text = text; answer = Accepted }

abbrev only_first : List Item → ServerLogs
only_first log n = if n == 0 then log else []

abbrev in_test : ℕ → Status
in_test depth = at_depth (record { transaction_depth = depth; requires_rollback_maybe_up_to_top_level = false; test_transaction = true })

-- ---- a test's transaction is begun once, and stays open in the pool

abbrev test_log : List Item
test_log = item Exec (codes "BEGIN") ∷ item Exec (codes "SAVEPOINT diesel_savepoint_1") ∷ []

abbrev test_entries : List Entry
test_entries =
    make_entry 2 words.Get (Some 0) replies.Ok (Some (in_test 1)) (Some 1)
    ∷ make_entry 3 words.Begin (Some 0) replies.Ok (Some (in_test 2)) (Some 2)
    ∷ make_entry 4 words.Put (Some 0) replies.Kept (Some (in_test 2)) (Some 2)
    ∷ make_entry 5 words.Get (Some 0) replies.Ok (Some (in_test 2)) (Some 2)
    ∷ []

test_answers : answered (pool_script Test) (only_first test_log) ≡ Some test_entries
unfolding class is_begin is_built is_write same_text begins number_behind digits
test_answers = refl

-- the fold knows both levels
two_levels : length (fold_entries 0 test_log (pool_script Test).commands test_entries (unfolded (policy_of (pool_script Test)))).stack.levels ≡ 2
unfolding class is_begin is_built is_write same_text begins number_behind digits
two_levels = refl

abbrev first_mark : Mark
first_mark = record { number = 1; writes = [] }

test_meets : EntryPremises Sqlite (policy_of (pool_script Test)) 0 test_log (pool_script Test).commands test_entries
unfolding class is_begin is_built is_write same_text begins number_behind digits
test_meets = lawful_premises Sqlite (policy_of (pool_script Test)) 0 test_log (pool_script Test).commands test_entries (Open (record { base = []; now = []; marks = first_mark ∷ []; aborted = false })) refl refl tt

-- ---- another transaction left open closes its connection

abbrev one_get : Script
one_get = record (empty_script (record { dialect = Sqlite; max_size = 1; customizer = Begin; check = true })) { commands = record { line = 2; act = acts.Get } ∷ [] }

left_open : answered one_get (only_first (item Exec (codes "BEGIN") ∷ [])) ≡ Some (make_entry 2 words.Get (Some 0) (replies.Pool (pooling.LeftOpen 0)) None (Some 1) ∷ [])
unfolding class is_begin is_built is_write same_text begins number_behind digits
left_open = refl

-- ---- a kept connection is pinged, and a new one isn't

abbrev checking_script : Script
checking_script = record (empty_script (record { dialect = Sqlite; max_size = 1; customizer = Nop; check = true })) {
  commands = record { line = 2; act = acts.Get } ∷ record { line = 3; act = acts.Put 0 } ∷ record { line = 4; act = acts.Get } ∷ [];
}

abbrev ping_log : List Item
ping_log = item (Prepare (Some 1)) (codes "SELECT 1") ∷ item (Run []) (codes "SELECT 1") ∷ []

abbrev checked_entries : List Entry
checked_entries =
    make_entry 2 words.Get (Some 0) replies.Ok (Some no_depth) (Some 0)
    ∷ make_entry 3 words.Put (Some 0) replies.Kept (Some no_depth) (Some 0)
    ∷ make_entry 4 words.Get (Some 0) replies.Ok (Some no_depth) (Some 2)
    ∷ []

checked_answers : answered checking_script (only_first ping_log) ≡ Some checked_entries
unfolding class is_begin is_built is_write same_text same_types begins number_behind digits
checked_answers = refl

-- where the ping is refused the connection is closed
abbrev refused_log : List Item
refused_log = record { call = Prepare (Some 1); text = codes "SELECT 1"; answer = Refused (record { code = pos 5; kind = Unknown }) Stays } ∷ []

abbrev refused_entries : List Entry
refused_entries =
    make_entry 2 words.Get (Some 0) replies.Ok (Some no_depth) (Some 0)
    ∷ make_entry 3 words.Put (Some 0) replies.Kept (Some no_depth) (Some 0)
    ∷ make_entry 4 words.Get (Some 0) (replies.Pool (pooling.QueryError (DatabaseError Unknown (pos 5)) 0)) None (Some 1)
    ∷ []

refused_answers : answered checking_script (only_first refused_log) ≡ Some refused_entries
unfolding class is_begin is_built is_write same_text same_types begins number_behind digits
refused_answers = refl
