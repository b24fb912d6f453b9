-- The text that bytes begin with.
use Rattle.std.specs.Prelude.{◌≡◌, ◌⊎◌, List, ℕ, length, take}
use Rattle.std.specs.Str.{IsValidUpTo}

-- it is all of the bytes, or as many as are UTF-8
abbrev pub IsFront : List ℕ → List ℕ → Type 0
IsFront bytes text =
    (text ≡ bytes) ⊎ (text ≡ take (length text) bytes) × IsValidUpTo bytes (length text)
