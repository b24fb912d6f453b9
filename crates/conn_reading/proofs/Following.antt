-- The invariant along the calls of a connection.
use Rattle.std.proofs.Common.{List, [], ◌∷◌, ◌++◌, subst, append_assoc, append-nil}
use Rattle.conn_model.specs.States.{State, Idle}
use Rattle.conn_model.specs.declared.item.Dialect.{Dialect}
use Rattle.conn_model.specs.declared.item.Item.{Item}
use Rattle.conn_manager.specs.Statuses.{Status, no_depth}
use Rattle.conn_reading.specs.Histories.{Operation, Begin, BeginBy, Commit, Rollback, TestBegin, Close, Asks, left_status, IsOperation, operation_process, Step, Follow, step_items, IsHistory}
use Rattle.conn_reading.specs.Reading.{Reads}
use Rattle.conn_reading.specs.Verdicts.{Part, Holds, Verdict, StandsOver}
use Rattle.conn_reading.proofs.Beginning.{begin_safe, begin_sql_safe}
use Rattle.conn_reading.proofs.BlockEnds.{close_safe}
use Rattle.conn_reading.proofs.Ending.{commit_safe, rollback_safe}
use Rattle.conn_reading.proofs.Logs.{Sound, sound_at_first, sound_reads, sound_verdict, sound_stands}
use Rattle.conn_reading.proofs.Plain.{plainly_safe}
use Rattle.conn_reading.proofs.Safe.{Safe}
use Rattle.conn_reading.proofs.TestBegins.{test_begin_safe}

pub operation_safe : (d : Dialect) (operation : Operation) (S : Status) (s : State) (p : Part) → IsOperation operation → Holds d S s p → Safe d left_status s p (operation_process d S operation)
operation_safe d Begin S s p is h = begin_safe d S s p h
operation_safe d (BeginBy text) S s p is h = begin_sql_safe d S s p text is h
operation_safe d Commit S s p is h = commit_safe d S s p h
operation_safe d Rollback S s p is h = rollback_safe d S s p h
operation_safe d TestBegin S s p is h = test_begin_safe d S s p h
operation_safe d (Close kind answer) S s p is h = close_safe d kind answer S s p h
operation_safe d (Asks f) S s p is h = plainly_safe d left_status S s p (f d S) (is d S) h

pub step_sound : (d : Dialect) (S : Status) (s after : State) (before : List Item) (e : Step) → IsOperation e.operation → Sound d S before s → Reads d s (operation_process d S e.operation) e.items e.answer after → Sound d e.answer.status (before ++ e.items) after
step_sound d S s after before e is sound reads =
    sound_reads d left_status S s before e.items (operation_process d S e.operation) e.answer after sound (λ p h. operation_safe d e.operation S s p is h) reads

pub follow_sound : (d : Dialect) (S : Status) (s : State) (before : List Item) (steps : List Step) (end : State) (left : Status) → Sound d S before s → Follow d s S steps end left → Sound d left (before ++ step_items steps) end
follow_sound d S s before [] end left sound f = rw (append-nil before, f.0, f.1) sound
follow_sound d S s before (e ∷ es) end left sound f =
    let first = step_sound d S s f.1.0 before e f.0 sound f.1.1 in
    subst (λ (l : List Item). Sound d left l end) (append_assoc before e.items (step_items es)) (follow_sound d e.answer.status f.1.0 (before ++ e.items) es end left first f.1.2)

pub history_sound : (d : Dialect) (steps : List Step) (S : Status) → (h : IsHistory d steps S) → Sound d S (step_items steps) h.state
history_sound d steps S h = follow_sound d no_depth (Idle []) [] steps h.state S (sound_at_first d) h.follows

pub verdict_holds : (d : Dialect) (steps : List Step) (S : Status) → IsHistory d steps S → Verdict d S (step_items steps)
verdict_holds d steps S h = sound_verdict d S (step_items steps) h.state (history_sound d steps S h)

pub depth_holds : (d : Dialect) (steps : List Step) (S : Status) → IsHistory d steps S → StandsOver d S (step_items steps)
depth_holds d steps S h = sound_stands d S (step_items steps) h.state (history_sound d steps S h)
