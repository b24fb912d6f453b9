-- Sums over the servers of connections, and what holds of each of them, when one place changes.
use Rattle.std.proofs.Common.{◌≡◌, ◌≢◌, ℕ, zero, suc, ◌+◌, ◌<◌, ◌≤◌, List, [], ◌∷◌, ◌++◌, length, Option, Some, None, refl, sym, ap, subst, ◌∙◌, arith, inl, inr}
use Rattle.std.specs.Prelude.{◌==◌, slice_set, sum_by, if◌then◌else◌}
use Rattle.std.specs.List.{AllByRecursion}
use Rattle.std.proofs.lemmas.Bool.{cases_eq}
use Rattle.std.proofs.lemmas.List.Sums.{sum_by-set, sum_by-cons, sum_by_push}
use Rattle.conn_model.specs.Seen.{Seen}
use Rattle.conn_manager.specs.Views.{View}
use Rattle.conn_reading.specs.Seats.{at_number}
use Rattle.conn_session.specs.Known.{OfServer}
use Rattle.conn_session.specs.Worlds.{part, of_number, refusals, ArePlaced}
use Rattle.conn_session.proofs.Numbers.{at_number-within}

-- a place that is there
pub within : (vs : List (Option View)) (n : ℕ) (v : View) → at_number n vs ≡ Some v → n < length vs
within [] n v e = absurd (cc)
within (x ∷ vs) zero v e = omega arith
within (x ∷ vs) (suc n) v e = omega (arith, within vs n v e)

-- a sum after one place changed
pub sum-set : (f : Seen → ℕ) (vs : List (Option View)) (n : ℕ) (o : Option View) → n < length vs → sum_by (part f) (slice_set vs n o) + part f (at_number n vs) ≡ sum_by (part f) vs + part f o
sum-set f vs n o l = ap (λ (x : Option View). sum_by (part f) (slice_set vs n o) + part f x) (at_number-within n vs None l) ∙ sum_by-set (part f) vs n o None l

pub sum-set_at : (f : Seen → ℕ) (vs : List (Option View)) (n : ℕ) (v : View) (o : Option View) → at_number n vs ≡ Some v → sum_by (part f) (slice_set vs n o) + f v.seen ≡ sum_by (part f) vs + part f o
sum-set_at f vs n v o e = ap (λ (x : Option View). sum_by (part f) (slice_set vs n o) + part f x) (sym e) ∙ sum-set f vs n o (within vs n v e)

pub sum-set_vacant : (f : Seen → ℕ) (vs : List (Option View)) (n : ℕ) (o : Option View) → n < length vs → at_number n vs ≡ None → sum_by (part f) (slice_set vs n o) ≡ sum_by (part f) vs + part f o
sum-set_vacant f vs n o l e = omega (arith, ap (λ (x : Option View). part f x) e, sum-set f vs n o l)

pub sum-last : (f : Seen → ℕ) (vs : List (Option View)) (o : Option View) → sum_by (part f) (vs ++ o ∷ []) ≡ sum_by (part f) vs + part f o
sum-last f vs o = sum_by_push (part f) vs o

pub sum-last_seen : (f : Seen → ℕ) (ss : List Seen) (s : Seen) → sum_by f (ss ++ s ∷ []) ≡ sum_by f ss + f s
sum-last_seen f ss s = sum_by_push f ss s

pub sum-first : (f : Seen → ℕ) (vs : List (Option View)) (o : Option View) → sum_by (part f) (o ∷ vs) ≡ part f o + sum_by (part f) vs
sum-first f vs o = sum_by-cons (part f) o vs

-- the term of a place is in the sum
pub sum-at : (f : Seen → ℕ) (vs : List (Option View)) (n : ℕ) (v : View) → at_number n vs ≡ Some v → f v.seen ≤ sum_by (part f) vs
sum-at f [] n v e = absurd (cc)
sum-at f (x ∷ vs) zero v e = omega (arith, sum_by-cons (part f) x vs, ap (part f) e)
sum-at f (x ∷ vs) (suc n) v e = omega (arith, sum_by-cons (part f) x vs, sum-at f vs n v e)

-- an empty place stays
pub set-vacant : (vs : List (Option View)) (n : ℕ) → at_number n vs ≡ None → slice_set vs n None ≡ vs
set-vacant [] n e = refl
set-vacant (x ∷ vs) zero e = ap (λ (y : Option View). y ∷ vs) (sym e)
set-vacant (x ∷ vs) (suc n) e = ap (λ (ys : List (Option View)). x ∷ ys) (set-vacant vs n e)

-- ---- what holds of each

module _ (P : Seen → Type 0) where
  pub all-at : (vs : List (Option View)) (n : ℕ) (v : View) → at_number n vs ≡ Some v → AllByRecursion (OfServer P) vs → P v.seen
  all-at [] n v e all = absurd (cc)
  all-at (x ∷ vs) zero v e all = subst (OfServer P) e all.0
  all-at (x ∷ vs) (suc n) v e all = all-at vs n v e all.1

  pub all-set : (vs : List (Option View)) (n : ℕ) (o : Option View) → OfServer P o → AllByRecursion (OfServer P) vs → AllByRecursion (OfServer P) (slice_set vs n o)
  all-set [] n o h all = tt
  all-set (x ∷ vs) zero o h all = (h, all.1)
  all-set (x ∷ vs) (suc n) o h all = (all.0, all-set vs n o h all.1)

pub all-last : {X : Type 0} (P : X → Type 0) (xs : List X) (x : X) → AllByRecursion P xs → P x → AllByRecursion P (xs ++ x ∷ [])
all-last P [] x all h = (h, tt)
all-last P (y ∷ ys) x all h = (all.0, all-last P ys x all.1 h)

pub all-front : {X : Type 0} (P : X → Type 0) (xs : List X) (x : X) → AllByRecursion P (xs ++ x ∷ []) → AllByRecursion P xs × P x
all-front P [] x all = (tt, all.0)
all-front P (y ∷ ys) x all = (let rest = all-front P ys x all.1 in ((all.0, rest.0), rest.1))

pub all-map : {X : Type 0} (P Q : X → Type 0) (xs : List X) → ((x : X) → P x → Q x) → AllByRecursion P xs → AllByRecursion Q xs
all-map P Q [] h all = tt
all-map P Q (x ∷ xs) h all = (h x all.0, all-map P Q xs h all.1)

-- ---- places by number

pub placed-at : (k : ℕ) (vs : List (Option View)) (n : ℕ) (v : View) → at_number n vs ≡ Some v → ArePlaced k vs → v.seen.number ≡ k + n
placed-at k [] n v e p = absurd (cc)
placed-at k (None ∷ vs) zero v e p = absurd (cc)
placed-at k (Some u ∷ vs) zero v e p = let same : u ≡ v = cc in ap (λ (x : View). x.seen.number) (sym same) ∙ p.0 ∙ omega arith
placed-at k (None ∷ vs) (suc n) v e p = placed-at (suc k) vs n v e p ∙ omega arith
placed-at k (Some u ∷ vs) (suc n) v e p = placed-at (suc k) vs n v e p.1 ∙ omega arith

pub placed-set : (k : ℕ) (vs : List (Option View)) (n : ℕ) (v : View) → v.seen.number ≡ k + n → ArePlaced k vs → ArePlaced k (slice_set vs n (Some v))
placed-set k [] n v e p = tt
placed-set k (None ∷ vs) zero v e p = (e ∙ omega arith, p)
placed-set k (Some u ∷ vs) zero v e p = (e ∙ omega arith, p.1)
placed-set k (None ∷ vs) (suc n) v e p = placed-set (suc k) vs n v (e ∙ omega arith) p
placed-set k (Some u ∷ vs) (suc n) v e p = (p.0, placed-set (suc k) vs n v (e ∙ omega arith) p.1)

pub placed-left : (k : ℕ) (vs : List (Option View)) (n : ℕ) → ArePlaced k vs → ArePlaced k (slice_set vs n None)
placed-left k [] n p = tt
placed-left k (None ∷ vs) zero p = p
placed-left k (Some u ∷ vs) zero p = p.1
placed-left k (None ∷ vs) (suc n) p = placed-left (suc k) vs n p
placed-left k (Some u ∷ vs) (suc n) p = (p.0, placed-left (suc k) vs n p.1)

pub placed-last : (k : ℕ) (vs : List (Option View)) (v : View) → v.seen.number ≡ k + length vs → ArePlaced k vs → ArePlaced k (vs ++ Some v ∷ [])
placed-last k [] v e p = (e ∙ omega arith, tt)
placed-last k (None ∷ vs) v e p = placed-last (suc k) vs v (e ∙ omega arith) p
placed-last k (Some u ∷ vs) v e p = (p.0, placed-last (suc k) vs v (e ∙ omega arith) p.1)

pub placed-none : (k : ℕ) (vs : List (Option View)) → ArePlaced k vs → ArePlaced k (vs ++ None ∷ [])
placed-none k [] p = tt
placed-none k (None ∷ vs) p = placed-none (suc k) vs p
placed-none k (Some u ∷ vs) p = (p.0, placed-none (suc k) vs p.1)

-- ---- measures of one server

pub number_here : (n : ℕ) (s : Seen) → s.number ≡ n → of_number n s ≡ 1
number_here n s e = grind arith

pub number_other : (n : ℕ) (s : Seen) → s.number ≢ n → of_number n s ≡ 0
number_other n s e = grind arith

pub number_same : (n : ℕ) (s t : Seen) → t.number ≡ s.number → of_number n t ≡ of_number n s
number_same n s t e = ap (λ (m : ℕ). if m == n then 1 else 0) e

pub refusals_later : (n : ℕ) (s t : Seen) → t.number ≡ s.number → s.failures ≤ t.failures → refusals n s ≤ refusals n t
refusals_later n s t e l = elim (cases_eq s.number n) [
  | inl same ↦ grind (arith, e, same, l)
  | inr differs ↦ (let h : refusals n s ≡ 0 = grind arith in omega arith)
]

pub refusals_here : (n : ℕ) (s : Seen) → s.number ≡ n → refusals n s ≡ s.failures
refusals_here n s e = grind arith
