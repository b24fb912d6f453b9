-- The path of a URL, which names a database.
use Rattle.std.specs.Prelude.{ℕ, ◌==◌, Bool, false, List, [], ◌∷◌, Option, Some, None, if◌then◌else◌}
use Rattle.std.specs.List.{list_any}

-- what follows the slash that the path begins with: its segments, with a slash between any two
abbrev pub segments_of : List ℕ → Option (List ℕ)
segments_of [] = None
segments_of (b ∷ bs) = if b == 47 then Some bs else None

-- there is a slash between segments
abbrev pub are_several : Option (List ℕ) → Bool
are_several None = false
are_several (Some segments) = list_any (λ b. b == 47) segments

-- the path has more than one segment
abbrev pub has_more_segments : List ℕ → Bool
has_more_segments path = are_several (segments_of path)

-- a text, unless it is missing or empty
abbrev pub unless_empty : Option (List ℕ) → Option (List ℕ)
unless_empty None = None
unless_empty (Some []) = None
unless_empty (Some (b ∷ bs)) = Some (b ∷ bs)

-- the one segment of the path as it stands, unless it is empty
abbrev pub database_of : List ℕ → Option (List ℕ)
database_of path = unless_empty (segments_of path)
