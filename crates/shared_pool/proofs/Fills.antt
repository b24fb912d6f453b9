-- A new pool's slots are given in order.
use Rattle.std.proofs.Common.{◌≡◌, ℕ, suc, ◌+◌, ◌-◌, ◌<◌, ◌∷◌, ap, ◌∙◌, arith}
use Rattle.std.proofs.lemmas.Bool.Decides.{nat_tests}
use Rattle.conn_pool.specs.SlotViews.{empty_slot}
use Rattle.shared_pool.specs.declared.tally.Tally.{Tally}
use Rattle.shared_pool.specs.Totals.{copies, one_where, numbers_from, all_but}
use Rattle.shared_pool.specs.SlotRules.{no_sums, HasSlot}
use Rattle.shared_pool.specs.SlotMeasures.{after_give}

numbers_from-step : (k n : ℕ) → k < n → numbers_from k (n - k) ≡ k ∷ numbers_from (k + 1) (n - (k + 1))
numbers_from-step k n h =
    let e : n - k ≡ suc (n - (k + 1)) = omega arith in
    let f : suc k ≡ k + 1 = omega arith in
    ap (numbers_from k) e ∙ ap (λ (j : ℕ). k ∷ numbers_from j (n - (k + 1))) f

all_but-numbers_from : (k n : ℕ) → k < n → all_but k (numbers_from k (n - k)) ≡ numbers_from (k + 1) (n - (k + 1))
all_but-numbers_from k n h = ap (all_but k) (numbers_from-step k n h) ∙ grind (arith, nat_tests)

-- the tally after the first k slots were given
abbrev pub filling : ℕ → ℕ → ℕ → Tally
filling max seats k = record { held = numbers_from k (max - k); share = seats; taken = no_sums; given = record { slots = k; empty = k } }

-- the next slot is still with the seat
pub has_next : (max seats k : ℕ) (v : Tally) → k < max → v ≡ filling max seats k → HasSlot v k
has_next max seats k v h was =
    let e : copies k (numbers_from k (max - k)) ≡ one_where k k + copies k (numbers_from (k + 1) (max - (k + 1))) = ap (copies k) (numbers_from-step k max h) in
    let f : copies k v.held ≡ copies k (numbers_from k (max - k)) = ap (λ (u : Tally). copies k u.held) was in
    grind (arith, nat_tests, e, f)

-- the tally after one more was given
pub fills : (C : Type 0) (max seats k : ℕ) (v w : Tally) → k < max → v ≡ filling max seats k → w ≡ after_give {C = C} v (empty_slot k) → w ≡ filling max seats (k + 1)
fills C max seats k v w h was is =
    is ∙ (ap (λ (u : Tally). after_give {C = C} u (empty_slot k)) was
    ∙ (λ i. record { held = all_but-numbers_from k max h i; share = seats; taken = no_sums; given = record { slots = k + 1; empty = k + 1 } }))
