-- What the words of a command line ask for.
use Rattle.std.specs.Prelude.{⊤, ℕ, ◌≤◌, nat_le, List, [], ◌∷◌, Option, None, codes, if◌then◌else◌}
use Rattle.std.specs.Str.{bytes_eq}
use Rattle.conn_model.specs.Numbers.{number}
use Rattle.conn_script.specs.Options.{◌>>=◌, guard}
use Rattle.conn_session.specs.declared.task.Task.{Task}
use Rattle.conn_session.specs.declared.task.Task.TheVariants.{Run, Gen}

-- a script from a seed and a number of stanzas, at most 100,000
abbrev pub generation_of : List ℕ → List ℕ → Option Task
generation_of seed count = do
  s ← number 18446744073709551616 seed
  n ← number 4294967296 count
  guard (nat_le n 100000) (Gen s n)

-- `run`, or `gen` with a seed and a number of stanzas; other words ask for nothing
abbrev pub task_of : List (List ℕ) → Option Task
task_of (word ∷ []) = guard (bytes_eq word (codes "run")) Run
task_of (word ∷ seed ∷ count ∷ []) =
    if bytes_eq word (codes "gen") then generation_of seed count else None
task_of _ = None

-- what is generated has at most 100,000 stanzas
abbrev pub HasFewStanzas : Task → Type 0
HasFewStanzas Run = ⊤
HasFewStanzas (Gen seed count) = count ≤ 100000
