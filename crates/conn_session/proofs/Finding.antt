-- Queries at the places of their numbers.
use Rattle.std.proofs.Common.{◌≡◌, ◌≢◌, ℕ, zero, suc, ◌<◌, Bool, true, false, nat_eq, List, [], ◌∷◌, ◌++◌, length, Option, Some, None, refl, sym, ap, ◌∙◌, arith}
use Rattle.std.specs.Prelude.{◌==◌, slice_set, is_some, if◌then◌else◌}
use Rattle.std.proofs.lemmas.Bool.Decides.{nat_tests}
use Rattle.conn_reading.specs.Asking.{find_query}
use Rattle.conn_reading.specs.Seats.{at_number}
use Rattle.conn_script.specs.declared.query.Declared.{Declared}
use Rattle.conn_session.specs.Finds.{with_placed}

-- one empty place more
pub at_number-empty : {A : Type 0} (n : ℕ) (xs : List (Option A)) → at_number n (xs ++ None ∷ []) ≡ at_number n xs
at_number-empty zero [] = refl
at_number-empty (suc n) [] = refl
at_number-empty zero (x ∷ xs) = refl
at_number-empty (suc n) (x ∷ xs) = at_number-empty n xs

-- what was set at a place stands there
at_number-same : {A : Type 0} (i : ℕ) (xs : List (Option A)) (y : Option A) → i < length xs → at_number i (slice_set xs i y) ≡ y
at_number-same i [] y l = absurd (omega arith)
at_number-same zero (x ∷ xs) y l = refl
at_number-same (suc i) (x ∷ xs) y l = at_number-same i xs y (omega arith)

-- the other places are as they were
at_number-apart : {A : Type 0} (n i : ℕ) (xs : List (Option A)) (y : Option A) → i ≢ n → at_number n (slice_set xs i y) ≡ at_number n xs
at_number-apart n i [] y apart = refl
at_number-apart zero zero (x ∷ xs) y apart = absurd (apart refl)
at_number-apart (suc n) zero (x ∷ xs) y apart = refl
at_number-apart zero (suc i) (x ∷ xs) y apart = refl
at_number-apart (suc n) (suc i) (x ∷ xs) y apart = at_number-apart n i xs y (λ e. apart (ap suc e))

-- an empty place gets the query
gets : (q : Declared) (n : ℕ) (b : Bool) → (q.number == n) ≡ b → b ≡ true → Some q ≡ with_placed n q None
gets q n b e is = rw (e, is) refl

-- a query of another number changes nothing
leaves : (q : Declared) (n : ℕ) (at : Option Declared) → (q.number == n) ≡ false → at ≡ with_placed n q at
leaves q n None e = rw e refl
leaves q n (Some o) e = refl

pub put_empty : (q : Declared) (xs : List (Option Declared)) → q.number < length xs → at_number q.number xs ≡ None → (n : ℕ) → at_number n (slice_set xs q.number (Some q)) ≡ with_placed n q (at_number n xs)
put_empty q xs l none n = by_test (q.number == n) refl
  where
    by_test : (b : Bool) → (q.number == n) ≡ b → at_number n (slice_set xs q.number (Some q)) ≡ with_placed n q (at_number n xs)
    by_test true e =
        let same : q.number ≡ n = grind (arith, nat_tests) in
        ap (λ (m : ℕ). at_number m (slice_set xs q.number (Some q))) (sym same) ∙ at_number-same q.number xs (Some q) l ∙ gets q n true e refl ∙ ap (with_placed n q) (sym none ∙ ap (λ (m : ℕ). at_number m xs) same)
    by_test false e = at_number-apart n q.number xs (Some q) (λ same. let other : nat_eq q.number n ≡ false = e in absurd (grind (arith, nat_tests))) ∙ leaves q n (at_number n xs) e

-- one that is there stays
left : (q o : Declared) (n : ℕ) (at : Option Declared) (b : Bool) → (q.number == n) ≡ b → (b ≡ true → at ≡ Some o) → at ≡ with_placed n q at
left q o n None true e some = absurd (cc (some refl))
left q o n None false e some = rw e refl
left q o n (Some p) b e some = refl

pub put_none : (q o : Declared) (xs : List (Option Declared)) → at_number q.number xs ≡ Some o → (n : ℕ) → at_number n xs ≡ with_placed n q (at_number n xs)
put_none q o xs some n = left q o n (at_number n xs) (q.number == n) refl (λ e. ap (λ (m : ℕ). at_number m xs) (let same : n ≡ q.number = grind (arith, nat_tests) in same) ∙ some)

-- one query more
pub find_query-last : (n : ℕ) (qs : List Declared) (q : Declared) → find_query n (qs ++ q ∷ []) ≡ with_placed n q (find_query n qs)
find_query-last n [] q = refl
find_query-last n (p ∷ ps) q = elim (p.number == n) as (λ b. (if b then Some p else find_query n (ps ++ q ∷ [])) ≡ with_placed n q (if b then Some p else find_query n ps)) [
  | true ↦ refl
  | false ↦ find_query-last n ps q
]

-- ---- options by their tests

pub none_of : {A : Type 0} (o : Option A) → is_some o ≡ false → o ≡ None
none_of None e = refl
none_of (Some x) e = absurd (cc e)

pub some_of : {A : Type 0} (o : Option A) → is_some o ≡ true → (x : A) × (o ≡ Some x)
some_of None e = absurd (cc e)
some_of (Some x) e = (x, refl)
