-- Connections at the places of their numbers.
use Rattle.std.proofs.Common.{◌≡◌, ◌≢◌, ℕ, zero, suc, ◌<◌, ◌≤◌, List, [], ◌∷◌, ◌++◌, length, map, Option, Some, None, refl, ap, inl, inr, arith}
use Rattle.std.specs.Prelude.{slice_set}
use Rattle.std.specs.Option.{option_map}
use Rattle.std.proofs.lemmas.Bool.Decides.{leb_tells}
use Rattle.conn_reading.specs.Seats.{at_number}

-- one, where a connection is there
abbrev pub one_there : {A : Type 0} → Option A → ℕ
one_there None = 0
one_there (Some seat) = 1

module _ {A : Type 0} where
  pub at_past : (n : ℕ) (xs : List (Option A)) → length xs ≤ n → at_number n xs ≡ None
  at_past n [] l = refl
  at_past zero (x ∷ xs) l = absurd (omega (arith, l))
  at_past (suc n) (x ∷ xs) l = at_past n xs (omega (arith, l))

  -- a connection that is there has a place
  pub at_within : (n : ℕ) (xs : List (Option A)) (x : A) → at_number n xs ≡ Some x → n < length xs
  at_within n xs x e = elim (leb_tells (length xs) n) [
    | inl l ↦ (let none : at_number n xs ≡ None = at_past n xs l.1 in absurd (cc))
    | inr l ↦ l.1
  ]

  pub at-set : (n : ℕ) (xs : List (Option A)) (o : Option A) → n < length xs → at_number n (slice_set xs n o) ≡ o
  at-set n [] o l = absurd (omega (arith, l))
  at-set zero (x ∷ xs) o l = refl
  at-set (suc n) (x ∷ xs) o l = at-set n xs o (omega (arith, l))

  pub at-set_other : (k n : ℕ) (xs : List (Option A)) (o : Option A) → k ≢ n → at_number k (slice_set xs n o) ≡ at_number k xs
  at-set_other k n [] o apart = refl
  at-set_other zero zero (x ∷ xs) o apart = absurd (apart refl)
  at-set_other (suc k) zero (x ∷ xs) o apart = refl
  at-set_other zero (suc n) (x ∷ xs) o apart = refl
  at-set_other (suc k) (suc n) (x ∷ xs) o apart = at-set_other k n xs o (λ e. apart (ap suc e))

  pub at-last : (xs : List (Option A)) (o : Option A) → at_number (length xs) (xs ++ o ∷ []) ≡ o
  at-last [] o = refl
  at-last (x ∷ xs) o = at-last xs o

  pub at-last_other : (k : ℕ) (xs : List (Option A)) (o : Option A) → k ≢ length xs → at_number k (xs ++ o ∷ []) ≡ at_number k xs
  at-last_other zero [] o apart = absurd (apart refl)
  at-last_other (suc k) [] o apart = refl
  at-last_other zero (x ∷ xs) o apart = refl
  at-last_other (suc k) (x ∷ xs) o apart = at-last_other k xs o (λ e. apart (ap suc e))

pub at-map : {A B : Type 0} (f : A → B) (n : ℕ) (xs : List (Option A)) → at_number n (map (option_map f) xs) ≡ option_map f (at_number n xs)
at-map f n [] = refl
at-map f zero (x ∷ xs) = refl
at-map f (suc n) (x ∷ xs) = at-map f n xs
