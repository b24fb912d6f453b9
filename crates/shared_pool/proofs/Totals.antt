-- Sums over lists, and lists of numbers all_but one of them.
use Rattle.std.proofs.Common.{◌≡◌, ℕ, zero, suc, ◌+◌, ◌<◌, ◌≤◌, nat_lt, List, [], ◌∷◌, ◌++◌, length, set, sym, refl, ap, arith, if◌then◌else◌}
use Rattle.std.proofs.lemmas.Bool.Decides.{nat_tests}
use mathlib.Core.Option.{some, some-injective, some-ne-none}
use lib.ListN.{get_elem?}
use Rattle.shared_pool.specs.Totals.{sum_over, copies, one_where, all_but, numbers_from}

module _ {A : Type 0} where
  pub sum_over-append : (f : A → ℕ) (xs : List A) (y : A) → sum_over f (xs ++ y ∷ []) ≡ sum_over f xs + f y
  sum_over-append f [] y = omega arith
  sum_over-append f (x ∷ xs) y = omega (arith, sum_over-append f xs y)

  -- the sum_over after a change of one member
  pub sum_over-set : (f : A → ℕ) (xs : List A) (i : ℕ) (v w : A) → get_elem? xs i ≡ some v → sum_over f (set xs i w) + f v ≡ sum_over f xs + f w
  sum_over-set f [] i v w e = absurd (some-ne-none v (sym e))
  sum_over-set f (x ∷ xs) zero v w e = let same : f x ≡ f v = ap f (some-injective x v e) in omega arith
  sum_over-set f (x ∷ xs) (suc i) v w e = omega (arith, sum_over-set f xs i v w e)

  -- a member is at most the sum_over
  pub member_le : (f : A → ℕ) (xs : List A) (i : ℕ) (v : A) → get_elem? xs i ≡ some v → f v ≤ sum_over f xs
  member_le f [] i v e = absurd (some-ne-none v (sym e))
  member_le f (x ∷ xs) zero v e = let same : f x ≡ f v = ap f (some-injective x v e) in omega arith
  member_le f (x ∷ xs) (suc i) v e = omega (arith, member_le f xs i v e)

  -- what is at most at each member is at most in all
  pub sum_over_le : (f h : A → ℕ) (xs : List A) → ((i : ℕ) (v : A) → get_elem? xs i ≡ some v → f v ≤ h v) → sum_over f xs ≤ sum_over h xs
  sum_over_le f h [] each = omega arith
  sum_over_le f h (x ∷ xs) each = let here : f x ≤ h x = each 0 x refl in let there : sum_over f xs ≤ sum_over h xs = sum_over_le f h xs (λ i v e. each (suc i) v e) in omega arith

module _ {A : Type 0} where
  pub none_in : (f : A → ℕ) (xs : List A) → ((i : ℕ) (v : A) → get_elem? xs i ≡ some v → f v ≡ 0) → sum_over f xs ≡ 0
  none_in f [] each = refl
  none_in f (x ∷ xs) each = let here : f x ≡ 0 = each 0 x refl in let there : sum_over f xs ≡ 0 = none_in f xs (λ i v e. each (suc i) v e) in omega arith

pub copies-all_but : (n x : ℕ) (ys : List ℕ) → 0 < copies n ys → copies x (all_but n ys) + one_where x n ≡ copies x ys
copies-all_but n x [] more = absurd (omega arith)
copies-all_but n x (y ∷ ys) more = grind (arith, nat_tests, copies-all_but n x ys)

pub length-all_but : (n : ℕ) (ys : List ℕ) → 0 < copies n ys → length (all_but n ys) + 1 ≡ length ys
length-all_but n [] more = absurd (omega arith)
length-all_but n (y ∷ ys) more = grind (arith, nat_tests, length-all_but n ys)

pub length-numbers_from : (k n : ℕ) → length (numbers_from k n) ≡ n
length-numbers_from k zero = refl
length-numbers_from k (suc n) = ap suc (length-numbers_from (suc k) n)

-- how often a number stands among k, k + 1, .., n numbers
pub copies-numbers_from : (x k n : ℕ) → copies x (numbers_from k n) + (if nat_lt x k then 1 else 0) ≡ (if nat_lt x (k + n) then 1 else 0)
copies-numbers_from x k zero = grind (arith, nat_tests)
copies-numbers_from x k (suc n) = grind (arith, nat_tests, copies-numbers_from x (suc k) n)

pub none_left : {A : Type 0} (xs : List A) → length xs ≡ 0 → xs ≡ []
none_left [] e = refl
none_left (x ∷ xs) e = absurd (omega arith)
