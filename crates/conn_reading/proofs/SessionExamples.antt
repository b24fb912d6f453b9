-- A session that meets what the laws ask for.
use Rattle.std.proofs.Common.{◌≡◌, ℕ, true, false, List, [], ◌∷◌, codes, refl, Some}
use Rattle.std.specs.Prelude.{◌==◌, if◌then◌else◌}
use Rattle.std.specs.Fmt.{digits}
use Rattle.conn_model.specs.Classes.{class, is_begin, is_built, is_write, same_text, begins, number_behind}
use Rattle.conn_model.specs.States.{Idle}
use Rattle.conn_model.specs.declared.item.Answer.TheVariants.{Accepted}
use Rattle.conn_model.specs.declared.item.Call.TheVariants.{Exec}
use Rattle.conn_model.specs.declared.item.Dialect.TheVariants.{Sqlite}
use Rattle.conn_model.specs.declared.item.Item.{Item}
use Rattle.conn_manager.specs.Statuses.{Status, no_depth, at_depth}
use Rattle.conn_report.specs.declared.entry.Entry.{Entry}
use Rattle.conn_report.specs.declared.entry.Reply.TheVariants as replies
use Rattle.conn_script.specs.Drafts.{empty_script}
use Rattle.conn_script.specs.Headers.{plain_header}
use Rattle.conn_script.specs.declared.command.Act.TheVariants as acts
use Rattle.conn_script.specs.declared.command.Script.{Script}
use Rattle.conn_script.specs.declared.command.Word.TheVariants as words
use Rattle.conn_reading.specs.Answered.{ServerLogs, answered}
use Rattle.conn_reading.specs.Asking.{policy_of}
use Rattle.conn_reading.specs.Seats.{make_entry}
use Rattle.conn_reading.specs.Sessions.{AllPlain, is_opened, unfolded, fold_entries, EntryPremises}
use Rattle.conn_reading.proofs.Premises.{lawful_premises}

-- begin, write a, commit
abbrev the_script : Script
the_script = record (empty_script (plain_header Sqlite)) {
  commands =
      record { line = 2; act = acts.Get }
      ∷ record { line = 3; act = acts.Begin 0 }
      ∷ record { line = 4; act = acts.Batch 0 (codes "INSERT a") }
      ∷ record { line = 5; act = acts.Commit 0 }
      ∷ record { line = 6; act = acts.Put 0 }
      ∷ [];
}

abbrev item : List ℕ → Item
item text = record { call = Exec; text = text; answer = Accepted }

abbrev the_log : List Item
the_log = item (codes "BEGIN") ∷ item (codes "INSERT a") ∷ item (codes "COMMIT") ∷ []

abbrev the_logs : ServerLogs
the_logs n = if n == 0 then the_log else []

abbrev deep : Status
deep = at_depth (record { transaction_depth = 1; requires_rollback_maybe_up_to_top_level = false; test_transaction = false })

abbrev the_entries : List Entry
the_entries =
    make_entry 2 words.Get (Some 0) replies.Ok (Some no_depth) (Some 0)
    ∷ make_entry 3 words.Begin (Some 0) replies.Ok (Some deep) (Some 1)
    ∷ make_entry 4 words.Batch (Some 0) replies.Ok (Some deep) (Some 2)
    ∷ make_entry 5 words.Commit (Some 0) replies.Ok (Some no_depth) (Some 3)
    ∷ make_entry 6 words.Put (Some 0) replies.Kept (Some no_depth) (Some 3)
    ∷ []

they_are_plain : AllPlain the_script.commands
unfolding class is_begin is_built is_write same_text begins number_behind
they_are_plain = (tt, (tt, (refl, (tt, (tt, tt)))))

they_answer : answered the_script the_logs ≡ Some the_entries
unfolding class is_begin is_built is_write same_text begins number_behind digits
they_answer = refl

is_there : is_opened 0 the_entries ≡ true
is_there = refl

-- a is kept
the_fold : (fold_entries 0 the_log the_script.commands the_entries (unfolded (policy_of the_script))).stack.lowest ≡ codes "INSERT a" ∷ []
unfolding class is_begin is_built is_write same_text begins number_behind digits
the_fold = refl

they_meet : EntryPremises Sqlite (policy_of the_script) 0 the_log the_script.commands the_entries
unfolding class is_begin is_built is_write same_text begins number_behind digits
they_meet = lawful_premises Sqlite (policy_of the_script) 0 the_log the_script.commands the_entries (Idle (codes "INSERT a" ∷ [])) refl refl tt
