-- What the calls of one connection read of its log, one after another.
use Rattle.std.specs.Prelude.{◌≡◌, ⊤, List, [], ◌∷◌, ◌++◌, ℕ, Ok}
use Rattle.conn_model.specs.Classes.{class}
use Rattle.conn_model.specs.Process.{Process}
use Rattle.conn_model.specs.States.{State, Idle}
use Rattle.conn_model.specs.declared.class.Class.TheVariants as of
use Rattle.conn_model.specs.declared.item.Dialect.{Dialect}
use Rattle.conn_model.specs.declared.item.Item.{Item}
use Rattle.conn_manager.specs.Manages.{Done, Reply, begin_process, begin_sql_process, begin_test_process, commit_process, rollback_process}
use Rattle.conn_manager.specs.Setups.{setup_process}
use Rattle.conn_manager.specs.Statuses.{Status, no_depth}
use Rattle.conn_script.specs.declared.command.BlockKind.{BlockKind}
use Rattle.conn_reading.specs.Asking.{close_process}
use Rattle.conn_reading.specs.Plainly.{Plainly}
use Rattle.conn_reading.specs.Reading.{Reads}

-- a call on a connection: one of its transaction manager, the end of a block with its answer, or any that asks by a process of
-- its own
pub data Operation : Type 0 where
  Begin : Operation
  BeginBy : List ℕ → Operation
  Commit : Operation
  Rollback : Operation
  TestBegin : Operation
  Close : BlockKind → Reply → Operation
  Asks : (Dialect → Status → Process Done) → Operation

-- a connection that was just opened sets itself up
abbrev pub Setup : Operation
Setup = Asks setup_process

-- the status that a call leaves
abbrev pub left_status : Done → Status
left_status a = a.status

-- a text that begins is of class Begin, and a process of a call's own is plain
abbrev pub IsOperation : Operation → Type 0
IsOperation Begin = ⊤
IsOperation (BeginBy text) = class text ≡ of.Begin
IsOperation Commit = ⊤
IsOperation Rollback = ⊤
IsOperation TestBegin = ⊤
IsOperation (Close kind answer) = ⊤
IsOperation (Asks f) = (d : Dialect) (S : Status) → Plainly d left_status S (f d S)

-- what the call sends and answers, from this status
abbrev pub operation_process : Dialect → Status → Operation → Process Done
operation_process d S Begin = begin_process d S
operation_process d S (BeginBy text) = begin_sql_process d text S
operation_process d S Commit = commit_process d S
operation_process d S Rollback = rollback_process d S
operation_process d S TestBegin = begin_test_process d S
operation_process d S (Close kind answer) = close_process kind answer d S
operation_process d S (Asks f) = f d S

-- a call, its items, and what it answered with the status that it left
pub record Step : Type 0 where
  pub operation : Operation
  pub items : List Item
  pub answer : Done

-- from a state and a status each call reads its own items, and the last leaves this state and status
abbrev pub Follow : Dialect → State → Status → List Step → State → Status → Type 0
Follow d s S [] end left = (end ≡ s) × (left ≡ S)
Follow d s S (e ∷ es) end left = IsOperation e.operation × ((after : State) × Reads d s (operation_process d S e.operation) e.items e.answer after × Follow d after e.answer.status es end left)

-- the log of the calls
abbrev pub step_items : List Step → List Item
step_items [] = []
step_items (e ∷ es) = e.items ++ step_items es

-- the first of these calls was the setup, and it was accepted
abbrev pub StartsSetUp : List Step → Type 0
StartsSetUp [] = ⊥
StartsSetUp (e ∷ es) = (e.operation ≡ Setup) × (e.answer.reply ≡ Ok tt)

-- a new connection made these calls, and its status is this after them
pub record IsHistory (d : Dialect) (steps : List Step) (S : Status) : Type 0 where
  pub state : State
  pub follows : Follow d (Idle []) no_depth steps state S
