-- Connections at the places of their numbers.
use Rattle.std.proofs.Common.{◌≡◌, ℕ, zero, suc, ◌<◌, ◌≤◌, List, [], ◌∷◌, length, get_or, map, Option, Some, None, refl, ap, arith}
use Rattle.std.specs.Prelude.{slice_set}
use Rattle.std.specs.Option.{option_map}
use Rattle.conn_reading.specs.Seats.{at_number}

pub at_number-map : {A B : Type 0} (f : A → B) (n : ℕ) (xs : List (Option A)) → at_number n (map (option_map f) xs) ≡ option_map f (at_number n xs)
at_number-map f n [] = refl
at_number-map f zero (x ∷ xs) = refl
at_number-map f (suc n) (x ∷ xs) = at_number-map f n xs

pub at_number-past : {A : Type 0} (n : ℕ) (xs : List (Option A)) → length xs ≤ n → at_number n xs ≡ None
at_number-past n [] l = refl
at_number-past zero (x ∷ xs) l = absurd (omega arith)
at_number-past (suc n) (x ∷ xs) l = at_number-past n xs (omega arith)

pub at_number-within : {A : Type 0} (n : ℕ) (xs : List (Option A)) (d : Option A) → n < length xs → at_number n xs ≡ get_or xs n d
at_number-within n [] d l = absurd (omega arith)
at_number-within zero (x ∷ xs) d l = refl
at_number-within (suc n) (x ∷ xs) d l = at_number-within n xs d (omega arith)

-- what was set at a number that was taken stands there
pub at_number-set : {A : Type 0} (n : ℕ) (xs : List (Option A)) (x : A) (y : Option A) → at_number n xs ≡ Some x → at_number n (slice_set xs n y) ≡ y
at_number-set n [] x y e = absurd (cc e)
at_number-set zero (z ∷ zs) x y e = refl
at_number-set (suc n) (z ∷ zs) x y e = at_number-set n zs x y e

pub map-slice_set : {X Y : Type 0} (f : X → Y) (xs : List X) (i : ℕ) (x : X) → map f (slice_set xs i x) ≡ slice_set (map f xs) i (f x)
map-slice_set f [] i x = refl
map-slice_set f (y ∷ ys) zero x = refl
map-slice_set f (y ∷ ys) (suc i) x = ap (λ zs. f y ∷ zs) (map-slice_set f ys i x)

-- past the end nothing is set
pub slice_set-past : {X : Type 0} (xs : List X) (i : ℕ) (x : X) → length xs ≤ i → slice_set xs i x ≡ xs
slice_set-past [] i x l = refl
slice_set-past (y ∷ ys) zero x l = absurd (omega arith)
slice_set-past (y ∷ ys) (suc i) x l = ap (λ zs. y ∷ zs) (slice_set-past ys i x (omega arith))

pub none-of_length : {X : Type 0} (xs : List X) (n : ℕ) → n ≡ length xs → n ≡ 0 → xs ≡ []
none-of_length [] n l none = refl
none-of_length (x ∷ xs) n l none = absurd (omega arith)
