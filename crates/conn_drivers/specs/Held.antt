-- The rows of a load that are held.
use Rattle.std.specs.Prelude.{◌≡◌, List, [], ◌∷◌, Option, Some, None, Result, Ok}
use Rattle.conn_result.specs.declared.error.Error.{Error}
use Rattle.conn_model.specs.Armed.{Values}

-- the first of the rows was taken, where one was left
abbrev pub TakesFirst : List Values → List Values → Option Values → Type 0
TakesFirst [] new row = (row ≡ None) × (new ≡ [])
TakesFirst (first ∷ rest) new row = (row ≡ Some first) × (new ≡ rest)

-- all rows as they are
abbrev pub all_held : List Values → Result (List Values) Error
all_held rows = Ok rows
