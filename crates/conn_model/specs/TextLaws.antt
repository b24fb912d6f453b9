-- Texts that are the same can't be told apart, and are hashed alike.
use Rattle.std.specs.Prelude.{◌≡◌, ℕ, true, List}
use Rattle.std.specs.Cmp.{IsEquivalence, unsigned_Decides}
use Rattle.std.specs.Cmp.Lexicographic.{nat_list_eq_equiv, pointwise_decides}
use Rattle.std.specs.Hash as fed
use Rattle.std.specs.Hash.{HashWrites}
use mathlib.Core.Path.{ap}
use Rattle.conn_model.specs.Classes.{same_text}

-- what is hashed of a text: its bytes
abbrev pub text_writes : List ℕ → HashWrites
text_writes t = fed.str t

-- being the same is an equivalence
pub text_equiv : IsEquivalence same_text
unfolding same_text
text_equiv = nat_list_eq_equiv

-- a text that is the same is this one
pub text_is : (s t : List ℕ) → same_text s t ≡ true → s ≡ t
unfolding same_text
text_is s t h = (pointwise_decides unsigned_Decides s t).0 h

-- texts that are the same are hashed alike
pub text_writes_alike : (s t : List ℕ) → same_text s t ≡ true → text_writes s ≡ text_writes t
text_writes_alike s t h = ap text_writes (text_is s t h)
