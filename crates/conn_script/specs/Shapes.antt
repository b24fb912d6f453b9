-- The shape of a query's rows as scripts write it.
use Rattle.std.specs.Prelude.{ℕ, zero, suc, ◌==◌, Bool, true, false, List, [], ◌∷◌, Option, Some, None, codes, if◌then◌else◌}
use Rattle.std.specs.Option.{option_map}
use Rattle.std.specs.Str.{bytes_eq}
use Rattle.conn_script.specs.Options.{◌>>=◌}
use Rattle.conn_script.specs.declared.shape.ShapeKind.{ShapeKind}
use Rattle.conn_script.specs.declared.shape.ShapeKind.TheVariants.{Int, Text, Bytes}

-- the kind of a letter: i, t or b
abbrev pub kind_lettered : ℕ → Option ShapeKind
kind_lettered b =
    if b == 105 then Some Int else
    if b == 116 then Some Text else
    if b == 98 then Some Bytes else None

-- whether a question mark stands first, and what is left
abbrev pub null_mark : List ℕ → Bool × List ℕ
null_mark [] = (false, [])
null_mark (b ∷ bs) = if b == 63 then (true, bs) else (false, b ∷ bs)

-- at most so many columns: each is a letter, with a question mark behind it where the column may be
-- null
abbrev pub shape_columns : ℕ → List ℕ → Option (List (ShapeKind × Bool))
shape_columns n [] = Some []
shape_columns zero (b ∷ bs) = None
shape_columns (suc n) (b ∷ bs) = do
  kind ← kind_lettered b
  more ← shape_columns n (null_mark bs).1
  Some ((kind, (null_mark bs).0) ∷ more)

-- a star for every row, or one to four columns
abbrev pub shape_named : List ℕ → Option (Option (List (ShapeKind × Bool)))
shape_named [] = None
shape_named (b ∷ bs) =
    if bytes_eq (b ∷ bs) (codes "*") then Some None else
    option_map Some (shape_columns 4 (b ∷ bs))
