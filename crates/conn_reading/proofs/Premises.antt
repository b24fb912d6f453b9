-- An idle server accepts a savepoint on MySQL alone, and a refusal aborts on PostgreSQL alone. So the log of a history needs, beside
-- the first premise, one more there, and none on SQLite.
use Rattle.std.proofs.Common.{◌≡◌, ℕ, ◌-◌, Bool, true, false, ◌&&◌, ◌||◌, if◌then◌else◌, List, [], ◌∷◌, take, drop, Option, Some, None, Ok, Err, refl, sym, ap, subst, ◌∙◌, append-nil}
use Rattle.std.specs.List.{list_any}
use Rattle.std.proofs.lemmas.List.{take-append-drop}
use Rattle.std.proofs.lemmas.List.Folds.{list_any-append}
use Rattle.conn_result.specs.declared.error.DatabaseErrorKind.{DatabaseErrorKind}
use Rattle.conn_result.specs.declared.pool.Error.TheVariants as pooling
use Rattle.conn_model.specs.Classes.{class}
use Rattle.conn_model.specs.States.{State, Idle, Open, Lost, Transaction, Writes, commits, idle_accepts, open_refuses, refuses, step_refused, step, step_by, steps, state_of}
use Rattle.conn_model.specs.declared.class.Class.{Class}
use Rattle.conn_model.specs.declared.class.Class.TheVariants as of
use Rattle.conn_model.specs.declared.item.Answer.{Answer}
use Rattle.conn_model.specs.declared.item.Answer.TheVariants.{Accepted, Refused}
use Rattle.conn_model.specs.declared.item.Call.{Call}
use Rattle.conn_model.specs.declared.item.Call.TheVariants.{Exec, Prepare, Run, Fetch}
use Rattle.conn_model.specs.declared.item.Dialect.{Dialect}
use Rattle.conn_model.specs.declared.item.Dialect.TheVariants.{Pg, Mysql, Sqlite}
use Rattle.conn_model.specs.declared.item.Effect.{Effect}
use Rattle.conn_model.specs.declared.item.Effect.TheVariants.{Stays, Aborts, Ends, Loses}
use Rattle.conn_model.specs.declared.item.Item.{Item}
use Rattle.conn_report.specs.declared.entry.Entry.{Entry}
use Rattle.conn_report.specs.declared.entry.Reply.{Reply}
use Rattle.conn_report.specs.declared.entry.Reply.TheVariants as replies
use Rattle.conn_script.specs.Grammar.{script_of}
use Rattle.conn_script.specs.declared.command.Script.{Script}
use Rattle.conn_script.specs.Requests.{request_of}
use Rattle.conn_script.specs.declared.command.BlockKind.TheVariants.{Plain, Test, Form}
use Rattle.conn_script.specs.declared.command.Command.{Command}
use Rattle.conn_reading.specs.Answered.{ServerLogs, answered}
use Rattle.conn_manager.specs.Agrees.{is_mysql}
use Rattle.conn_manager.specs.Manages.{Reply as CallAnswer}
use Rattle.conn_reading.specs.Asking.{Policy, policy_of}
use Rattle.conn_reading.specs.Folds.{Level, Stack, Kind, Begins, Commits, Rolls, Closes, Sends, after_reply, KeepsLive, merged_in, without_top, written, written_in, emptied, is_savepoint_class, is_accepted, is_idle, ends, aborts, after_abort, runs_write, after_write, after_end, after_item, after_items, refuses_transaction, SetsInOpen, IsDoomed}
use Rattle.conn_reading.specs.Histories.{step_items}
use Rattle.conn_reading.specs.Sessions.{Each, Folded, deed_here, unfolded, mark_of, is_opened, deed_kind, after_deed, between, after_mark, after_entry, DeedLive, MarkLive, EntriesLive, EntryPremises, PremisesLeft}
use Rattle.conn_reading.specs.declared.deed.Deed.{Deed}
use Rattle.conn_reading.specs.Verdicts.{runs_class}
use Rattle.conn_reading.proofs.Following.{history_sound}
use Rattle.conn_reading.proofs.FollowingFold.{or_false}
use Rattle.conn_reading.proofs.SessionLaws.{says}
use Rattle.conn_reading.proofs.SessionRuns.{SessionSays}
use Rattle.conn_reading.proofs.Tracks.{Track, IsTrack}

-- ---- what the dialects allow

-- an idle server accepts no savepoint, but on MySQL
savepoint_idle : (d : Dialect) (w : Writes) (x : List ℕ) (k : ℕ) (after : State) → is_mysql d ≡ false → idle_accepts d w x (of.Savepoint k) ≡ Some after → ⊥
savepoint_idle Pg w x k after other is = cc
savepoint_idle Mysql w x k after other is = cc
savepoint_idle Sqlite w x k after other is = cc

idle_sets_none : (d : Dialect) (w : Writes) (x : List ℕ) (c : Class) (after : State) → is_mysql d ≡ false → idle_accepts d w x c ≡ Some after → is_savepoint_class c ≡ false
idle_sets_none d w x of.Begin after other is = refl
idle_sets_none d w x (of.Savepoint k) after other is = absurd (savepoint_idle d w x k after other is)
idle_sets_none d w x (of.RollbackTo k) after other is = refl
idle_sets_none d w x (of.Release k) after other is = refl
idle_sets_none d w x of.Commit after other is = refl
idle_sets_none d w x of.Rollback after other is = refl
idle_sets_none d w x of.Write after other is = refl
idle_sets_none d w x of.Other after other is = refl

set_in_open : (d : Dialect) (s after : State) (call : Call) (text : List ℕ) (a : Answer) → is_mysql d ≡ false → step_by d s call text a ≡ Some after → (is_accepted a && runs_class is_savepoint_class call text) ≡ true → is_idle s ≡ false
set_in_open d (Open o) after call text a other is set = refl
set_in_open d (Lost w) after call text a other is set = refl
set_in_open d (Idle w) after call text (Refused r e) other is set = absurd (cc)
set_in_open d (Idle w) after Exec text Accepted other is set = let none = idle_sets_none d w text (class text) after other is in absurd (cc)
set_in_open d (Idle w) after (Run binds) text Accepted other is set = let none = idle_sets_none d w text (class text) after other is in absurd (cc)
set_in_open d (Idle w) after (Prepare name) text Accepted other is set = absurd (cc)
set_in_open d (Idle w) after Fetch text Accepted other is set = absurd (cc)

-- PostgreSQL
abbrev is_pg : Dialect → Bool
is_pg Pg = true
is_pg Mysql = false
is_pg Sqlite = false

-- no refusal aborts, but on PostgreSQL
open_aborts_none : (d : Dialect) (o : Transaction) (after : State) (b : Bool) (kind : DatabaseErrorKind) → is_pg d ≡ false → open_refuses d o b kind Aborts ≡ Some after → ⊥
open_aborts_none Pg o after b kind other is = cc
open_aborts_none Mysql o after b kind other is = cc
open_aborts_none Sqlite o after b kind other is = cc

refusal_aborts_none : (d : Dialect) (s after : State) (b : Bool) (kind : DatabaseErrorKind) (e : Effect) → is_pg d ≡ false → refuses d s b kind e ≡ Some after → aborts e ≡ false
refusal_aborts_none d s after b kind Stays other is = refl
refusal_aborts_none d s after b kind Ends other is = refl
refusal_aborts_none d s after b kind Loses other is = refl
refusal_aborts_none d (Idle w) after b kind Aborts other is = absurd (cc)
refusal_aborts_none d (Open o) after b kind Aborts other is = absurd (open_aborts_none d o after b kind other is)
refusal_aborts_none d (Lost w) after b kind Aborts other is = absurd (cc)

-- a refusal that aborts the transaction
abbrev aborts_by : Answer → Bool
aborts_by Accepted = false
aborts_by (Refused r e) = aborts e

abbrev is_abort : Item → Bool
is_abort i = aborts_by i.answer

aborts_none : (d : Dialect) (s after : State) (call : Call) (text : List ℕ) (a : Answer) → is_pg d ≡ false → step_by d s call text a ≡ Some after → aborts_by a ≡ false
aborts_none d s after call text Accepted other is = refl
aborts_none d s after call text (Refused r e) other is = refusal_aborts_none d s after (commits call text) r.kind e other (step_refused d s text call text r e after is).1

-- ---- what a lawful log meets

steps_none : (d : Dialect) (log : List Item) → steps d None log ≡ None
steps_none d [] = refl
steps_none d (i ∷ is) = steps_none d is

-- each of the two premises, where the dialect gives it
abbrev pub Meets : Dialect → State → List Item → Type 0
Meets d s log = (is_mysql d ≡ false → SetsInOpen d s log) × (is_pg d ≡ false → list_any is_abort log ≡ false)

pub lawful_meets : (d : Dialect) (s end : State) (log : List Item) → steps d (Some s) log ≡ Some end → Meets d s log
lawful_meets d s end [] is = (λ other. tt, λ other. refl)
lawful_meets d s end (i ∷ log) is = by_step (step d s i) refl is (λ after e. lawful_meets d after end log e)
  where
    by_step : (o : Option State) → step d s i ≡ o → steps d o log ≡ Some end → ((after : State) → steps d (Some after) log ≡ Some end → Meets d after log) → Meets d s (i ∷ log)
    by_step None e f rest = let none = steps_none d log in absurd (cc)
    by_step (Some after) e f rest =
        let h = rest after f in (
          λ other. (set_in_open d s after i.call i.text i.answer other e, λ mid g. (let same : after ≡ mid = cc (sym e ∙ g) in subst (λ (x : State). SetsInOpen d x log) same (h.0 other))),
          λ other. ap (λ (b : Bool). b || list_any is_abort log) (aborts_none d s after i.call i.text i.answer other e) ∙ h.1 other,
        )

-- ---- no level is doomed

abbrev NoneDoomed : List Level → Type 0
NoneDoomed levels = Each (λ (l : Level). l.doomed ≡ false) levels

not_doomed : (levels : List Level) → NoneDoomed levels → IsDoomed levels → ⊥
not_doomed [] h doomed = doomed
not_doomed (l ∷ ls) h doomed = let live = h.0 in cc

merged_keeps : (w : Writes) (levels : List Level) → NoneDoomed levels → NoneDoomed (merged_in w levels).levels
merged_keeps w [] h = tt
merged_keeps w (l ∷ []) h = tt
merged_keeps w (l ∷ m ∷ ls) h = h.1

dropped_keeps : (levels : List Level) → NoneDoomed levels → NoneDoomed (without_top levels)
dropped_keeps [] h = tt
dropped_keeps (l ∷ ls) h = h.1

written_keeps : (text : List ℕ) (w : Writes) (levels : List Level) → NoneDoomed levels → NoneDoomed (written_in text w levels).levels
written_keeps text w [] h = tt
written_keeps text w (l ∷ ls) h = h

write_keeps : (i : Item) (k : Stack) → NoneDoomed k.levels → NoneDoomed (after_write i k).levels
write_keeps i k h = by_test (runs_write i)
  where
    by_test : (b : Bool) → NoneDoomed (if b then written i.text k else k).levels
    by_test true = written_keeps i.text k.lowest k.levels h
    by_test false = h

abort_keeps : (a : Answer) (k : Stack) → aborts_by a ≡ false → NoneDoomed k.levels → NoneDoomed (after_abort a k).levels
abort_keeps Accepted k none h = h
abort_keeps (Refused r e) k none h = rw none h

end_keeps : (a : Answer) (k : Stack) → NoneDoomed k.levels → NoneDoomed (after_end a k).levels
end_keeps Accepted k h = h
end_keeps (Refused r e) k h = by_test (ends e)
  where
    by_test : (b : Bool) → NoneDoomed (if b then emptied k else k).levels
    by_test true = tt
    by_test false = h

items_keep : (items : List Item) (k : Stack) → list_any is_abort items ≡ false → NoneDoomed k.levels → NoneDoomed (after_items items k).levels
items_keep [] k none h = h
items_keep (i ∷ is) k none h =
    let parted = or_false (is_abort i) (list_any is_abort is) none in
    items_keep is (after_item i k) parted.1 (end_keeps i.answer _ (write_keeps i _ (abort_keeps i.answer k parted.0 h)))

answer_keeps : (kind : Kind) (a : CallAnswer) (k : Stack) → NoneDoomed k.levels → NoneDoomed (after_reply kind a k).levels
answer_keeps Begins (Ok u) k h = (refl, h)
answer_keeps Begins (Err e) k h = h
answer_keeps Commits (Ok u) k h = merged_keeps k.lowest k.levels h
answer_keeps Commits (Err e) k h = h
answer_keeps Rolls (Ok u) k h = dropped_keeps k.levels h
answer_keeps Rolls (Err e) k h = h
answer_keeps (Closes Plain) (Ok u) k h = merged_keeps k.lowest k.levels h
answer_keeps (Closes Plain) (Err e) k h = dropped_keeps k.levels h
answer_keeps (Closes (Form form)) (Ok u) k h = merged_keeps k.lowest k.levels h
answer_keeps (Closes (Form form)) (Err e) k h = dropped_keeps k.levels h
answer_keeps (Closes Test) a k h = dropped_keeps k.levels h
answer_keeps Sends a k h = h

reply_keeps : (deed : Option Deed) (reply : Reply) (k : Stack) → NoneDoomed k.levels → NoneDoomed (after_deed deed reply k).levels
reply_keeps None reply k h = h
reply_keeps (Some deed) replies.Ok k h = answer_keeps (deed_kind deed) (Ok tt) k h
reply_keeps (Some deed) (replies.Error e) k h = answer_keeps (deed_kind deed) (Err e) k h
reply_keeps (Some deed) (replies.Pool (pooling.QueryError e n)) k h = answer_keeps (deed_kind deed) (Err e) k h
reply_keeps (Some deed) (replies.Pool (pooling.LeftOpen n)) k h = answer_keeps (deed_kind deed) (Ok tt) k h
reply_keeps (Some deed) _ k h = h

kind_live : (kind : Kind) (k : Stack) → NoneDoomed k.levels → KeepsLive kind (Ok tt) k
kind_live Begins k h = tt
kind_live Commits k h = not_doomed k.levels h
kind_live Rolls k h = tt
kind_live (Closes Plain) k h = not_doomed k.levels h
kind_live (Closes (Form form)) k h = not_doomed k.levels h
kind_live (Closes Test) k h = tt
kind_live Sends k h = tt

deed_live : (deed : Option Deed) (reply : Reply) (k : Stack) → NoneDoomed k.levels → DeedLive deed reply k
deed_live None reply k h = tt
deed_live (Some deed) replies.Ok k h = kind_live (deed_kind deed) k h
deed_live (Some deed) _ k h = tt

-- ---- the entries

-- the items between two marks are some of the log
part_aborts_none : (n m : ℕ) (log : List Item) → list_any is_abort log ≡ false → list_any is_abort (take n (drop m log)) ≡ false
part_aborts_none n m log none =
    let behind : list_any is_abort (drop m log) ≡ false = (front_and_rest m log none).1 in
    (front_and_rest n (drop m log) behind).0
  where
    front_and_rest : (n : ℕ) (log : List Item) → list_any is_abort log ≡ false → (list_any is_abort (take n log) ≡ false) × (list_any is_abort (drop n log) ≡ false)
    front_and_rest n log none = or_false _ _ (sym (list_any-append is_abort (take n log) (drop n log)) ∙ ap (list_any is_abort) (take-append-drop n log) ∙ none)

mark_live : (log : List Item) (deed : Option Deed) (reply : Reply) (f : Folded) (mark : Option ℕ) → list_any is_abort log ≡ false → NoneDoomed f.stack.levels → MarkLive log deed reply f mark × NoneDoomed (after_mark log deed reply f mark).stack.levels
mark_live log deed reply f None none h = (tt, h)
mark_live log deed reply f (Some mark) none h =
    let k : Stack = between log f mark in
    let keeps : NoneDoomed k.levels = items_keep (take (mark - f.mark) (drop f.mark log)) f.stack (part_aborts_none (mark - f.mark) f.mark log none) h in
    (deed_live deed reply k keeps, reply_keeps deed reply k keeps)

entries_live : (n : ℕ) (log : List Item) (commands : List Command) (entries : List Entry) (f : Folded) → list_any is_abort log ≡ false → NoneDoomed f.stack.levels → EntriesLive n log commands entries f
entries_live n log [] entries f none h = tt
entries_live n log (c ∷ cs) [] f none h = tt
entries_live n log (c ∷ cs) (e ∷ es) f none h =
    let first = mark_live log (deed_here f (request_of c.act)) e.reply f (mark_of n e.connection e.mark) none h in
    (first.0, entries_live n log cs es (after_entry n log (request_of c.act) e f) none first.1)

-- ---- the laws

-- where no text of a transaction was refused, the others are what the dialect leaves
pub lawful_premises : (d : Dialect) (policy : Policy) (n : ℕ) (log : List Item) (commands : List Command) (entries : List Entry) (end : State) → state_of d log ≡ Some end → list_any refuses_transaction log ≡ false → PremisesLeft d policy n log commands entries
    → EntryPremises d policy n log commands entries
lawful_premises Pg policy n log commands entries end lawful none left = record { none_refused = none; none_in_idle = (lawful_meets Pg (Idle []) end log lawful).0 refl; live = left }
lawful_premises Mysql policy n log commands entries end lawful none left = record { none_refused = none; none_in_idle = left; live = entries_live n log commands entries (unfolded policy) ((lawful_meets Mysql (Idle []) end log lawful).1 refl) tt }
lawful_premises Sqlite policy n log commands entries end lawful none left =
    let h = lawful_meets Sqlite (Idle []) end log lawful in
    record { none_refused = none; none_in_idle = h.0 refl; live = entries_live n log commands entries (unfolded policy) (h.1 refl) tt }

-- the log of a server that was opened is that of a history, and so lawful
session_premises : (d : Dialect) (logs : ServerLogs) (policy : Policy) (commands : List Command) (entries : List Entry) (n : ℕ) → SessionSays d logs policy commands entries → is_opened n entries ≡ true → list_any refuses_transaction (logs n) ≡ false → PremisesLeft d policy n (logs n) commands entries
    → EntryPremises d policy n (logs n) commands entries
session_premises d logs policy commands entries n s opened none left =
    let t : Track = s.tracks n in
    let ended : IsTrack d (logs n) [] t = s.ended n (s.entries_say.opened_before n opened) in
    let all : logs n ≡ step_items t.steps = ended.all ∙ append-nil (step_items t.steps) in
    let sound = history_sound d t.steps t.status (record { state = t.state; follows = ended.follows }) in
    lawful_premises d policy n (logs n) commands entries t.state (ap (state_of d) all ∙ sound.gives.lawful) none left

pub premises_left : (bytes : List ℕ) (script : Script) (logs : ServerLogs) (entries : List Entry) → script_of bytes ≡ Ok script → answered script logs ≡ Some entries → (n : ℕ) → is_opened n entries ≡ true → list_any refuses_transaction (logs n) ≡ false
    → PremisesLeft script.dialect (policy_of script) n (logs n) script.commands entries → EntryPremises script.dialect (policy_of script) n (logs n) script.commands entries
premises_left bytes script logs entries parsed is n opened none left = session_premises script.dialect logs (policy_of script) script.commands entries n (says bytes script logs entries parsed is) opened none left
