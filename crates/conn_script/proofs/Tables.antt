-- The first of a list that passes a test.
use Rattle.std.proofs.Common.{◌≡◌, ◌∙◌, Some, Bool, false, cond, List, ◌∷◌, ap, sym}
use Rattle.std.specs.List.{find}

-- one that does not pass is passed over
pub find_passed : {X : Type 0} (test : X → Bool) (xs rest : List X) (x : X) → xs ≡ x ∷ rest → test x ≡ false → find test rest ≡ find test xs
find_passed test xs rest x e other = ap (λ (b : Bool). cond b (Some x) (find test rest)) (sym other) ∙ sym (ap (find test) e)
