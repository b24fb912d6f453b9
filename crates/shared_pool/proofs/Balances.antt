-- Each step keeps a sum in balance: what was taken, with what is in the queue, is what was given.
use Rattle.std.proofs.Common.{◌≡◌, ◌≢◌, ℕ, zero, suc, ◌+◌, ◌-◌, ◌<◌, List, [], ◌∷◌, ◌++◌, set, sym, refl, ap, ◌∙◌, arith, subst, ⊎_elim}
use mathlib.Core.Option.{some, some-injective, some-ne-none}
use lib.ListN.{get_elem?}
use Rattle.crossbeam_queue.proofs.Lists.{at_set, at_snoc}
use Rattle.shared_pool.specs.declared.tally.Sums.{Sums}
use Rattle.shared_pool.specs.declared.tally.Tally.{Tally}
use Rattle.shared_pool.specs.Totals.{sum_over}
use Rattle.shared_pool.specs.SlotRules.{after_join, after_pop, after_push, newcomer, no_sums, spent, with_share, Balances, IsBalanced, IsSettled, Measure}
use Rattle.shared_pool.proofs.Totals.{sum_over-append, sum_over-set, member_le, none_in}

-- the tally has taken and given nothing
abbrev HasNoSums : Tally → Type 0
HasNoSums v = (v.taken ≡ no_sums) × (v.given ≡ no_sums)

abbrev Idle : List Tally → Type 0
Idle tallies = (seat : ℕ) (v : Tally) → get_elem? tallies seat ≡ some v → v.share ≡ 0 → HasNoSums v

idle_set : (tallies : List Tally) (seat : ℕ) (w : Tally) → (w.share ≡ 0 → HasNoSums w) → Idle tallies → Idle (set tallies seat w)
idle_set tallies seat w mine others j u e =
    ⊎_elim (λ (x : (j ≡ seat) × (w ≡ u)). subst (λ (y : Tally). y.share ≡ 0 → HasNoSums y) x.1 mine) (λ (x : (j ≢ seat) × (get_elem? tallies j ≡ some u)). others j u x.1)
    (at_set tallies seat j w u e)

idle_snoc : (tallies : List Tally) (w : Tally) → (w.share ≡ 0 → HasNoSums w) → Idle tallies → Idle (tallies ++ w ∷ [])
idle_snoc tallies w mine others j u e =
    ⊎_elim (λ (x : get_elem? tallies j ≡ some u). others j u x) (λ (x : w ≡ u). subst (λ (y : Tally). y.share ≡ 0 → HasNoSums y) x mine) (at_snoc tallies w u j e)

idle_first : (v : Tally) → HasNoSums v → Idle (v ∷ [])
idle_first v none zero u e = λ nil. subst HasNoSums (some-injective v u e) none
idle_first v none (suc j) u e = absurd (some-ne-none u (sym e))

spent_idle : HasNoSums spent
spent_idle = (refl, refl)

-- one sum, by what a slot adds to it and by where it stands
module _ {T : Type 0} (of_slot : T → ℕ) (of_sums : Sums → ℕ) where
  abbrev taken_of : Tally → ℕ
  taken_of v = of_sums v.taken

  abbrev given_of : Tally → ℕ
  given_of v = of_sums v.given

  balance_push : (items : List T) (tallies : List Tally) (seat : ℕ) (v w : Tally) (s : T) → get_elem? tallies seat ≡ some v → of_sums w.taken ≡ of_sums v.taken → of_sums w.given ≡ of_sums v.given + of_slot s
      → Balances of_slot of_sums items tallies → Balances of_slot of_sums (items ++ s ∷ []) (set tallies seat w)
  balance_push items tallies seat v w s at same more h =
      let a = sum_over-append of_slot items s in
      let b = sum_over-set taken_of tallies seat v w at in
      let c = sum_over-set given_of tallies seat v w at in omega (arith, a, b, c, h, same, more)

  balance_pop : (items : List T) (tallies : List Tally) (seat : ℕ) (v w : Tally) (s : T) → get_elem? tallies seat ≡ some v → of_sums w.taken ≡ of_sums v.taken + of_slot s → of_sums w.given ≡ of_sums v.given
      → Balances of_slot of_sums (s ∷ items) tallies → Balances of_slot of_sums items (set tallies seat w)
  balance_pop items tallies seat v w s at more same h =
      let b = sum_over-set taken_of tallies seat v w at in
      let c = sum_over-set given_of tallies seat v w at in omega (arith, b, c, h, same, more)

  balance_fork : (items : List T) (tallies : List Tally) (seat : ℕ) (v left right : Tally) → get_elem? tallies seat ≡ some v → of_sums left.taken ≡ of_sums v.taken → of_sums left.given ≡ of_sums v.given
      → of_sums right.taken ≡ 0 → of_sums right.given ≡ 0 → Balances of_slot of_sums items tallies → Balances of_slot of_sums items (set tallies seat left ++ right ∷ [])
  balance_fork items tallies seat v left right at taken given none none' h =
      let a = sum_over-append taken_of (set tallies seat left) right in
      let a' = sum_over-append given_of (set tallies seat left) right in
      let b = sum_over-set taken_of tallies seat v left at in
      let c = sum_over-set given_of tallies seat v left at in omega (arith, a, a', b, c, h, taken, given, none, none')

  balance_merge : (items : List T) (tallies : List Tally) (seat other : ℕ) (v u both : Tally) → get_elem? tallies seat ≡ some v → get_elem? (set tallies seat both) other ≡ some u
      → of_sums both.taken ≡ of_sums v.taken + of_sums u.taken → of_sums both.given ≡ of_sums v.given + of_sums u.given → of_sums no_sums ≡ 0
      → Balances of_slot of_sums items tallies → Balances of_slot of_sums items (set (set tallies seat both) other spent)
  balance_merge items tallies seat other v u both at at' taken given none h =
      let a = sum_over-set taken_of (set tallies seat both) other u spent at' in
      let a' = sum_over-set given_of (set tallies seat both) other u spent at' in
      let b = sum_over-set taken_of tallies seat v both at in
      let c = sum_over-set given_of tallies seat v both at in omega (arith, a, a', b, c, h, taken, given, none)

  -- where the others took and gave nothing, and the queue is empty, the last one took what it gave
  balance_last : (tallies : List Tally) (seat : ℕ) (v : Tally) → get_elem? tallies seat ≡ some v → of_sums no_sums ≡ 0
      → ((j : ℕ) (u : Tally) → get_elem? (set tallies seat spent) j ≡ some u → HasNoSums u) → Balances of_slot of_sums [] tallies → of_sums v.taken ≡ of_sums v.given
  balance_last tallies seat v at none nil h =
      let a = none_in taken_of (set tallies seat spent) (λ j u e. ap of_sums (nil j u e).0 ∙ none) in
      let a' = none_in given_of (set tallies seat spent) (λ j u e. ap of_sums (nil j u e).1 ∙ none) in
      let b = sum_over-set taken_of tallies seat v spent at in
      let c = sum_over-set given_of tallies seat v spent at in omega (arith, a, a', b, c, h, none)

abbrev slots_of : Sums → ℕ
slots_of a = a.slots

abbrev empty_in : Sums → ℕ
empty_in a = a.empty

module _ {T : Type 0} (measure : Measure T) where
  abbrev one_each : T → ℕ
  one_each s = 1

  pub balanced_push : (items : List T) (tallies : List Tally) (seat : ℕ) (v : Tally) (s : T) → get_elem? tallies seat ≡ some v → 0 < v.share → IsBalanced measure items tallies
      → IsBalanced measure (items ++ s ∷ []) (set tallies seat (after_push measure v s))
  balanced_push items tallies seat v s at live h = let w = after_push measure v s in record {
    slots = balance_push one_each slots_of items tallies seat v w s at refl refl h.slots;
    empty = balance_push measure.empty empty_in items tallies seat v w s at refl refl h.empty;
    idle = idle_set tallies seat w (λ nil. absurd (omega arith)) h.idle;
  }

  pub balanced_pop : (items : List T) (tallies : List Tally) (seat : ℕ) (v : Tally) (s : T) → get_elem? tallies seat ≡ some v → 0 < v.share → IsBalanced measure (s ∷ items) tallies
      → IsBalanced measure items (set tallies seat (after_pop measure v s))
  balanced_pop items tallies seat v s at live h = let w = after_pop measure v s in record {
    slots = balance_pop one_each slots_of items tallies seat v w s at refl refl h.slots;
    empty = balance_pop measure.empty empty_in items tallies seat v w s at refl refl h.empty;
    idle = idle_set tallies seat w (λ nil. absurd (omega arith)) h.idle;
  }

  pub balanced_fork : (items : List T) (tallies : List Tally) (seat : ℕ) (v : Tally) (share : ℕ) → get_elem? tallies seat ≡ some v → 0 < share → share < v.share → IsBalanced measure items tallies
      → IsBalanced measure items (set tallies seat (with_share v (v.share - share)) ++ newcomer share ∷ [])
  balanced_fork items tallies seat v share at some_share less h = let left = with_share v (v.share - share) in let right = newcomer share in record {
    slots = balance_fork one_each slots_of items tallies seat v left right at refl refl refl refl h.slots;
    empty = balance_fork measure.empty empty_in items tallies seat v left right at refl refl refl refl h.empty;
    idle = idle_snoc (set tallies seat left) right (λ nil. (refl, refl)) (idle_set tallies seat left (λ nil. absurd (omega arith)) h.idle);
  }

  pub balanced_merge : (items : List T) (tallies : List Tally) (seat other : ℕ) (v u : Tally) → get_elem? tallies seat ≡ some v → get_elem? (set tallies seat (after_join v u)) other ≡ some u → 0 < u.share
      → IsBalanced measure items tallies → IsBalanced measure items (set (set tallies seat (after_join v u)) other spent)
  balanced_merge items tallies seat other v u at at' live h = let both = after_join v u in record {
    slots = balance_merge one_each slots_of items tallies seat other v u both at at' refl refl refl h.slots;
    empty = balance_merge measure.empty empty_in items tallies seat other v u both at at' refl refl refl h.empty;
    idle = idle_set (set tallies seat both) other spent (λ nil. spent_idle) (idle_set tallies seat both (λ nil. absurd (omega arith)) h.idle);
  }

  pub balanced_first : (v : Tally) → HasNoSums v → IsBalanced measure [] (v ∷ [])
  balanced_first v none = let a = ap slots_of none.0 in let b = ap slots_of none.1 in let c = ap empty_in none.0 in let d = ap empty_in none.1 in record {
    slots = omega (arith, a, b);
    empty = omega (arith, c, d);
    idle = idle_first v none;
  }

  -- the only seat, which has every slot, took what it gave
  pub balanced_last : (tallies : List Tally) (seat : ℕ) (v : Tally) → get_elem? tallies seat ≡ some v → sum_over (λ (u : Tally). u.share) tallies ≡ v.share → IsBalanced measure [] tallies → IsSettled v
  balanced_last tallies seat v at alone h =
      let shares = sum_over-set (λ (u : Tally). u.share) tallies seat v spent at in
      let others : Idle (set tallies seat spent) = idle_set tallies seat spent (λ nil. spent_idle) h.idle in
      let nil : (j : ℕ) (u : Tally) → get_elem? (set tallies seat spent) j ≡ some u → HasNoSums u =
      λ j u e. others j u e (let m = member_le (λ (y : Tally). y.share) (set tallies seat spent) j u e in omega (arith, m, shares)) in
      record {
        slots = balance_last one_each slots_of tallies seat v at refl nil h.slots;
        empty = balance_last measure.empty empty_in tallies seat v at refl nil h.empty;
      }
