-- The slash that a path begins with.
use Rattle.std.proofs.Common.{◌≡◌, ◌≢◌, ap, sym, List, [], ◌∷◌, ℕ, Option, Some, None, refl, arith}
use Rattle.std.specs.Prelude.{MatchOption, option_copied}
use Rattle.std.specs.Borrow.{Bor}
use Rattle.mysql_url.specs.Paths.{segments_of}

pub slash_cut : (path : List ℕ) (rest : Option (Bor (List ℕ))) → MatchOption rest ((bs : List ℕ) → path ≢ 47 ∷ bs) (λ bs. path ≡ 47 ∷ bs.now) → option_copied rest ≡ segments_of path
slash_cut [] None h = refl
slash_cut [] (Some bs) h = absurd (cc)
slash_cut (b ∷ bs) None h = let other : b ≢ 47 = λ e. h bs (ap (λ (n : ℕ). n ∷ bs) e) in grind arith
slash_cut (b ∷ bs) (Some rest) h = sym (ap segments_of h)
