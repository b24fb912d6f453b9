-- From the bytes of a source to the answer, and back.
use Rattle.std.proofs.Common.{◌≡◌, ℕ, ◌<◌, ◌≤◌, List, length, take, Option, Some, None, Result, Ok, Err, sym, ap, ◌∙◌, arith, inl, inr, Bool}
use Rattle.std.specs.Prelude.{IfOk, IfSome, MatchResult}
use Rattle.std.proofs.lemmas.Bool.{cases_lt}
use Rattle.std.proofs.lemmas.List.{take_all, length-take}
use Rattle.conn_script.specs.declared.command.Script.{Script}
use Rattle.conn_script.specs.Grammar.{script_of}
use Rattle.conn_server.specs.Connected.{Connected}
use Rattle.conn_session.specs.Commands.{Answers, AnswersTask, AnswersTold, IsComplete, IsCompleteTask}
use Rattle.conn_session.specs.Tasks.{HasFewStanzas}
use Rattle.conn_session.specs.declared.task.Task.{Task}
use Rattle.conn_session.specs.declared.task.Task.TheVariants.{Run, Gen}
use Rattle.script_generator.specs.Generator.{generated_script}
use Rattle.script_generator.proofs.Scripts.{is_a_script}

long_is_bad : (bs : List ℕ) → 16777216 < length bs → script_of bs ≡ Err 0
long_is_bad bs h = grind arith

-- one byte more than a script may have decides as all of them do
script_of-take : (bs : List ℕ) → script_of (take 16777217 bs) ≡ script_of bs
script_of-take bs = elim (cases_lt 16777216 (length bs)) [
  | inl long ↦ long_is_bad (take 16777217 bs) (omega (arith, length-take 16777217 bs)) ∙ sym (long_is_bad bs long)
  | inr short ↦ ap script_of (take_all 16777217 bs (omega arith))
]

-- what was read of a source decides as all that it had left
script_read : (left : Option (List ℕ)) (bytes : List ℕ) → IfSome left (λ l. bytes ≡ take 16777217 l) → IfSome left (λ l. script_of bytes ≡ script_of l)
script_read None bytes e = tt
script_read (Some l) bytes e = ap script_of e ∙ script_of-take l

pub read_script : {V E : Type 0} (result : Result V E) (items : V → List ℕ) (left : Option (List ℕ)) → IfOk result (λ v. IfSome left (λ l. items v ≡ take 16777217 l)) → IfOk result (λ v. IfSome left (λ l. script_of (items v) ≡ script_of l))
read_script (Ok v) items left h = script_read left (items v) h
read_script (Err e) items left h = tt

pub answers_told : (honest tells : Bool) (task : Task) (told : Option (List ℕ)) (bytes : List ℕ) (old new : Connected) (status : ℕ) (text : List ℕ) → IfSome told (λ l. script_of bytes ≡ script_of l) → Answers honest tells task (script_of bytes) old new status text → AnswersTold honest tells task told old new status text
answers_told honest tells task None bytes old new status text e h = (bytes, h)
answers_told honest tells task (Some l) bytes old new status text e h = rw e at h

status_of : (honest tells : Bool) (task : Task) (read : Result Script ℕ) (old new : Connected) (status : ℕ) (text : List ℕ) → Answers honest tells task read old new status text → MatchResult read (λ _. status ≡ 0) (λ _. status ≡ 1)
status_of honest tells task (Ok script) old new status text h = h.0
status_of honest tells task (Err n) old new status text h = h.0

zero_or_one : (read : Result Script ℕ) (status : ℕ) → MatchResult read (λ _. status ≡ 0) (λ _. status ≡ 1) → status ≤ 1
zero_or_one (Ok script) status h = omega arith
zero_or_one (Err n) status h = omega arith

is_complete : (honest tells : Bool) (left : Option (List ℕ)) (old new : Connected) (status : ℕ) (text : List ℕ) → AnswersTold honest tells Run left old new status text → IsComplete left status
is_complete honest tells None old new status text h = inr (zero_or_one (script_of h.0) status (status_of honest tells Run (script_of h.0) old new status text h.1))
is_complete honest tells (Some bytes) old new status text h = inr (status_of honest tells Run (script_of bytes) old new status text h)

-- bytes that are a script are answered 0
zero_alone : (read : Result Script ℕ) (script : Script) (status : ℕ) → read ≡ Ok script → MatchResult read (λ _. status ≡ 0) (λ _. status ≡ 1) → status ≡ 0
zero_alone (Ok x) script status e h = h
zero_alone (Err n) script status e h = absurd (cc)

pub is_complete_task : (honest tells : Bool) (task : Task) (left : Option (List ℕ)) (old new : Connected) (status : ℕ) (text : List ℕ) → HasFewStanzas task → AnswersTask honest tells task left old new status text → IsCompleteTask task left status
is_complete_task honest tells Run left old new status text few h = is_complete honest tells left old new status text h
is_complete_task honest tells (Gen seed count) left old new status text few h =
    let script = is_a_script seed count few in
    inr (zero_alone (script_of (generated_script seed count)) script.0 status script.1 (status_of honest tells (Gen seed count) (script_of (generated_script seed count)) old new status text h))
