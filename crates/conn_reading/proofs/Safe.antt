-- Every item that a process sends keeps the invariant where the process does.
use Rattle.std.proofs.Common.{◌≡◌, ℕ, Bool, true, false, ◌||◌, if◌then◌else◌, List, [], refl, Some, None, Ok, Err}
use Rattle.conn_result.specs.declared.error.Error.TheVariants.{DatabaseError}
use Rattle.conn_model.specs.Classes.{class}
use Rattle.conn_model.specs.Process.{Process, Stop, Ask, Look, Tell, map_process, refusal_of, plain_heard, given_rows}
use Rattle.conn_model.specs.Armed.{Values}
use Rattle.conn_model.specs.States.{step_refused, State, step_by, commits, told_of, accepts, is_closed}
use Rattle.conn_model.specs.declared.item.Answer.{Answer}
use Rattle.conn_model.specs.declared.item.Answer.TheVariants.{Accepted, Refused}
use Rattle.conn_model.specs.declared.item.Call.{Call}
use Rattle.conn_model.specs.declared.item.Call.TheVariants.{Exec, Fetch}
use Rattle.conn_model.specs.declared.item.Dialect.{Dialect}
use Rattle.conn_model.specs.declared.item.Effect.{Effect}
use Rattle.conn_model.specs.declared.item.Effect.TheVariants.{Stays, Aborts, Ends, Loses}
use Rattle.conn_model.specs.declared.item.Refusal.{Refusal}
use Rattle.conn_manager.specs.Manages.{Done, Reply, ask_text}
use Rattle.conn_manager.specs.Statuses.{Status, retold, reply_of}
use Rattle.conn_reading.specs.Histories.{left_status}
use Rattle.conn_reading.specs.Reading.{Beside, heard_with}
use Rattle.conn_reading.specs.Verdicts.{Part, part_after, fresh, loses, is_rollback_class, runs_class, is_begin_class, Holds}
use Rattle.conn_reading.proofs.Items.{Refuses, refused_keeps}

module _ {A : Type 0} (d : Dialect) (status : A → Status) where
  -- from this state and part, a text that begins is sent only where no transaction is open, and where the process ends the
  -- invariant holds of its status, whatever is answered
  abbrev pub Safe : State → Part → Process A → Type 0
  Safe s p (Stop a) = Holds d (status a) s p
  Safe s p (Tell event q) = Safe s p q
  Safe s p (Ask call text next) =
      (runs_class is_begin_class call text ≡ true → is_closed s ≡ true)
      × ((answer : Answer) (after : State) → step_by d s call text answer ≡ Some after → (b : Beside) → Safe after (part_after p call text answer) (next (heard_with d after answer b)))
  Safe s p (Look text next) =
      ((rows : List Values) → Safe s p (next (given_rows rows)))
      × ((r : Refusal) (e : Effect) (after : State) → step_by d s Fetch [] (Refused r e) ≡ Some after → Safe after (part_after p Fetch [] (Refused r e)) (next (plain_heard (Some r) (told_of d after))))

-- so it is of the same process with another value, of which the invariant holds too
pub safe_map : {A B : Type 0} (d : Dialect) (status : A → Status) (other : B → Status) (f : A → B) → ((a : A) (s : State) (p : Part) → Holds d (status a) s p → Holds d (other (f a)) s p)
    → (s : State) (p : Part) (q : Process A) → Safe d status s p q → Safe d other s p (map_process f q)
safe_map d status other f keeps s p (Stop a) h = keeps a s p h
safe_map d status other f keeps s p (Tell event q) h = safe_map d status other f keeps s p q h
safe_map d status other f keeps s p (Ask call text next) h = (
  h.0,
  λ answer after is b. safe_map d status other f keeps after (part_after p call text answer) (next (heard_with d after answer b)) (h.1 answer after is b),
)
safe_map d status other f keeps s p (Look text next) h = (
  λ rows. safe_map d status other f keeps s p (next (given_rows rows)) (h.0 rows),
  λ r e after is. safe_map d status other f keeps after (part_after p Fetch [] (Refused r e)) (next (plain_heard (Some r) (told_of d after))) (h.1 r e after is),
)

or-right : (a b : Bool) → b ≡ true → (a || b) ≡ true
or-right true b e = refl
or-right false b e = e

-- any refused item counts
pub refuses_as : (p : Part) (call : Call) (text : List ℕ) (x : Refusal) (e : Effect) → Refuses p (part_after p call text (Refused x e)) (loses e)
refuses_as p call text x Stays = record { refused = refl; broke = λ b. or-right (runs_class is_rollback_class call text) p.broke b; lost = λ b. absurd (cc) }
refuses_as p call text x Aborts = record { refused = refl; broke = λ b. or-right (runs_class is_rollback_class call text) p.broke b; lost = λ b. absurd (cc) }
refuses_as p call text x Ends = record { refused = refl; broke = λ b. or-right (runs_class is_rollback_class call text) p.broke b; lost = λ b. absurd (cc) }
refuses_as p call text x Loses = record { refused = refl; broke = λ b. refl; lost = λ b. refl }

broke_by : (p : Part) (text : List ℕ) (x : Refusal) (e : Effect) → is_rollback_class (class text) ≡ true → (part_after p Exec text (Refused x e)).broke ≡ true
broke_by p text x Stays h = rw h
broke_by p text x Aborts h = rw h
broke_by p text x Ends h = rw h
broke_by p text x Loses h = refl

-- a text that is sent: what follows where it is accepted, and what follows with any status where it is refused
pub asks : (d : Dialect) (S : Status) (s : State) (p : Part) (text : List ℕ) (next : Reply → Status → Process Done) → (is_begin_class (class text) ≡ true → is_closed s ≡ true) → Holds d S s p
    → ((mid : State) → accepts d s text ≡ Some mid → Safe d left_status mid (if is_begin_class (class text) then fresh else p) (next (Ok tt) (retold d None (told_of d mid) S)))
    → ((x : Refusal) (S1 : Status) (mid : State) (q : Part) → Holds d S1 mid q → q.refused ≡ true → (is_rollback_class (class text) ≡ true → q.broke ≡ true) → Safe d left_status mid q (next (Err (DatabaseError x.kind x.code)) S1))
    → Safe d left_status s p (ask_text d text S next)
asks d S s p text next closed h accepted refused = (closed, answers)
  where
    answers : (answer : Answer) (mid : State) → step_by d s Exec text answer ≡ Some mid → (b : Beside) → Safe d left_status mid (part_after p Exec text answer) (next (reply_of (refusal_of answer)) (retold d (refusal_of answer) (told_of d mid) S))
    answers Accepted mid is b = accepted mid is
    answers (Refused x e) mid is b =
        refused x (retold d (Some x) (told_of d mid) S) mid (part_after p Exec text (Refused x e))
        (refused_keeps d S s mid p (part_after p Exec text (Refused x e)) (commits Exec text) x e (refuses_as p Exec text x e) h (step_refused d s text Exec text x e mid is).1)
        refl (broke_by p text x e)
