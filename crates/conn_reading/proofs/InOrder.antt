-- One command after another, in finished logs.
use Rattle.std.proofs.Common.{◌≡◌, ℕ, zero, suc, Bool, true, cond, List, [], ◌∷◌, ◌++◌, length, nat_eq, append_assoc, append-nil, Option, Some, None, refl, sym, ap, ◌∙◌}
use Rattle.std.specs.Prelude.{◌&&◌}
use Rattle.std.specs.Option.{option_map, option_and_then}
use Rattle.conn_model.specs.declared.item.Item.{Item}
use Rattle.conn_report.specs.declared.entry.Entry.{Entry}
use Rattle.conn_script.specs.Requests.{request_of}
use Rattle.conn_script.specs.declared.command.Command.{Command}
use Rattle.conn_script.specs.declared.command.Script.{Script}
use Rattle.conn_reading.specs.Answered.{ServerLogs, Progress, Taken, Run, reads, reads_all, with_entry, all_read, whole, answered, servers_opened, started}
use Rattle.conn_reading.specs.Readings.{ReadsEntry, ReadsAll}
use Rattle.conn_reading.proofs.Appends.{anew-append}

with_last : List Entry → Taken → Run
with_last entries t = record { entries = entries ++ t.entry ∷ []; progress = t.progress; left = t.left }

push : Command → Run → Option Run
push command run = option_map (with_last run.entries) (reads run.progress run.left command.line (request_of command.act))

entry_last : (entry : Entry) (entries : List Entry) (t : Option Taken) → option_map (with_entry entry) (option_map (with_last entries) t) ≡ option_map (with_last (entry ∷ entries)) t
unfolding with_last
entry_last entry entries None = refl
entry_last entry entries (Some t) = refl

entry_push : (entry : Entry) (run : Option Run) (command : Command) → option_map (with_entry entry) (option_and_then (push command) run) ≡ option_and_then (push command) (option_map (with_entry entry) run)
unfolding push
entry_push entry None command = refl
entry_push entry (Some run) command = entry_last entry run.entries (reads run.progress run.left command.line (request_of command.act))

module _ (command : Command) where
  first_push : (t : Option Taken) (commands : List Command) → ((p : Progress) (logs : ServerLogs) → reads_all p logs (commands ++ command ∷ []) ≡ option_and_then (push command) (reads_all p logs commands))
      → option_and_then (λ (t : Taken). option_map (with_entry t.entry) (reads_all t.progress t.left (commands ++ command ∷ []))) t
      ≡ option_and_then (push command) (option_and_then (λ (t : Taken). option_map (with_entry t.entry) (reads_all t.progress t.left commands)) t)
  first_push None commands h = refl
  first_push (Some t) commands h = ap (option_map (with_entry t.entry)) (h t.progress t.left) ∙ entry_push t.entry (reads_all t.progress t.left commands) command

  one_push : (t : Option Taken) → option_and_then (λ (t : Taken). option_map (with_entry t.entry) (Some (record { entries = []; progress = t.progress; left = t.left }))) t ≡ option_map (with_last []) t
  unfolding with_last
  one_push None = refl
  one_push (Some t) = refl

  reads_all-push : (commands : List Command) (p : Progress) (logs : ServerLogs) → reads_all p logs (commands ++ command ∷ []) ≡ option_and_then (push command) (reads_all p logs commands)
  unfolding push
  reads_all-push [] p logs = one_push (reads p logs command.line (request_of command.act))
  reads_all-push (c ∷ commands) p logs = first_push (reads p logs c.line (request_of c.act)) commands (reads_all-push commands)

pub ReadsAll-none : (p : Progress) → ReadsAll p (λ n. []) [] [] p
ReadsAll-none p = record { whatever_follows = λ logs more e anew. (logs, refl, e) }

-- one command more
pub ReadsAll-push : (before mid after : Progress) (xs ys : ServerLogs) (commands : List Command) (command : Command) (entries : List Entry) (entry : Entry)
    → ReadsAll before xs commands entries mid → ReadsEntry (λ p logs. reads p logs command.line (request_of command.act)) mid ys entry after
    → ReadsAll before (λ n. xs n ++ ys n) (commands ++ command ∷ []) (entries ++ entry ∷ []) after
unfolding push with_last
ReadsAll-push before mid after xs ys commands command entries entry r s = record {
  whatever_follows = λ logs more e anew.
      let first = r.whatever_follows logs (λ n. ys n ++ more n) (λ n. e n ∙ append_assoc (xs n) (ys n) (more n)) (λ n. anew-append (ys n) (more n) (s.anew n) (anew n)) in
      let second = s.whatever_follows first.0 more first.2 anew in (
        second.0,
        reads_all-push command commands before logs ∙ ap (option_and_then (push command)) first.1 ∙ ap (option_map (with_last entries)) second.1,
        second.2,
      );
}

none_left : (n : ℕ) (left : ServerLogs) → ((k : ℕ) → left k ≡ []) → all_read n left ≡ true
none_left zero left h = refl
none_left (suc n) left h = ap (λ (t : List Item). nat_eq (length t) 0 && all_read n left) (h n) ∙ none_left n left h

-- where logs are just what is read of them, they answer the entries
pub is_answered : (script : Script) (logs items : ServerLogs) (entries : List Entry) (after : Progress) → ReadsAll (started script) items script.commands entries after → ((n : ℕ) → logs n ≡ items n)
    → answered script logs ≡ Some entries
is_answered script logs items entries after r same =
    let read = r.whatever_follows logs (λ n. []) (λ n. same n ∙ sym (append-nil (items n))) (λ n. tt) in
    ap (option_and_then whole) read.1 ∙ ap (λ (b : Bool). cond b (Some entries) None) (none_left after.context.opened read.0 read.2)

-- and they say how many servers were opened
pub is_opened : (script : Script) (logs items : ServerLogs) (entries : List Entry) (after : Progress) → ReadsAll (started script) items script.commands entries after → ((n : ℕ) → logs n ≡ items n)
    → servers_opened script logs ≡ Some after.context.opened
is_opened script logs items entries after r same =
    let read = r.whatever_follows logs (λ n. []) (λ n. same n ∙ sym (append-nil (items n))) (λ n. tt) in
    ap (option_map (λ (run : Run). run.progress.context.opened)) read.1
