-- Values by their keys.
use Rattle.std.specs.Prelude.{ℕ, Bool, List, Option}
use Rattle.std.specs.Map.{lookup}

-- keys with their values, in any order, and the room for further ones
pub record Table (K V : Type 0) : Type 0 where
  pub entries : List (K × V)
  pub room : ℕ

-- the value of a key, where it has one; a test says which keys are the same
abbrev pub value_at : {K V : Type 0} → (K → K → Bool) → Table K V → K → Option V
value_at same table key = lookup (same key) table.entries
