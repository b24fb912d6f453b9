-- The rule of a pool that threads share: where each slot is, and what was taken and given.
use Rattle.std.specs.Prelude.{ℕ, ◌≡◌, ◌+◌, ◌<◌, ◌≤◌, List, [], ◌∷◌, ◌++◌, length, min, ◌⊎◌}
use mathlib.Core.Option.{some}
use lib.ListN.{get_elem?}
use Rattle.shared_pool.specs.Totals.{sum_over, one_where, copies, once_below, all_but, numbers_from}
use Rattle.shared_pool.specs.declared.tally.Sums.{Sums}
use Rattle.shared_pool.specs.declared.tally.Tally.{Tally}

-- what the rule reads of a slot: its number, and 1 where it is empty
pub record Measure (T : Type 0) : Type 0 where
  pub number : T → ℕ
  pub empty : T → ℕ

-- nothing
abbrev pub no_sums : Sums
no_sums = record { slots = 0; empty = 0 }

-- two sums together
abbrev pub both_sums : Sums → Sums → Sums
both_sums a b = record { slots = a.slots + b.slots; empty = a.empty + b.empty }

-- the tally of a seat that took and gave nothing, and holds no slot
abbrev pub newcomer : ℕ → Tally
newcomer share = record { held = []; share = share; taken = no_sums; given = no_sums }

-- the tally of a seat that was joined to another one
abbrev pub spent : Tally
spent = newcomer 0

-- the tally of the first seat, which holds every slot while the queue is filled
abbrev pub first_tally : ℕ → ℕ → Tally
first_tally max seats = record (newcomer seats) { held = numbers_from 0 max }

-- the tally of the first seat of a pool, which gave its slots, all empty
abbrev pub filled_tally : ℕ → ℕ → Tally
filled_tally max seats = record (newcomer seats) { given = record { slots = max; empty = max } }

-- the tally with another share
abbrev pub with_share : Tally → ℕ → Tally
with_share v share = record v { share = share }

-- the tally of a seat after another one was joined to it, which holds no slot
abbrev pub after_join : Tally → Tally → Tally
after_join v w = record { held = v.held; share = v.share + w.share; taken = both_sums v.taken w.taken; given = both_sums v.given w.given }

-- no slot is with the seat
abbrev pub HoldsNone : Tally → Type 0
HoldsNone v = v.held ≡ []

-- this slot alone is with the seat
abbrev pub HoldsOne : Tally → ℕ → Type 0
HoldsOne v number = v.held ≡ number ∷ []

-- this slot is with the seat
abbrev pub HasSlot : Tally → ℕ → Type 0
HasSlot v number = 0 < copies number v.held

-- each of so many slots is with the seat, once
abbrev pub HoldsAll : ℕ → Tally → Type 0
HoldsAll max v = (x : ℕ) → copies x v.held ≡ once_below x max

-- as much was given as was taken
pub record IsSettled (v : Tally) : Type 0 where
  pub slots : v.taken.slots ≡ v.given.slots
  pub empty : v.taken.empty ≡ v.given.empty

-- what the seats took, with what is in the queue, is what they gave
abbrev pub Balances : {T : Type 0} → (T → ℕ) → (Sums → ℕ) → List T → List Tally → Type 0
Balances of_slot of_sums items tallies = sum_over (λ (v : Tally). of_sums v.taken) tallies + sum_over of_slot items ≡ sum_over (λ (v : Tally). of_sums v.given) tallies

module _ {T : Type 0} (measure : Measure T) where
  -- what a slot adds to a sum
  abbrev pub sums_of : T → Sums
  sums_of s = record { slots = 1; empty = measure.empty s }

  -- the tally after this slot left the queue for the seat
  abbrev pub after_pop : Tally → T → Tally
  after_pop v s = record v { held = v.held ++ measure.number s ∷ []; taken = both_sums v.taken (sums_of s) }

  -- the tally after this slot left the seat for the queue
  abbrev pub after_push : Tally → T → Tally
  after_push v s = record v { held = all_but (measure.number s) v.held; given = both_sums v.given (sums_of s) }

  -- each slot is in the queue or with one seat, and a seat holds one at most, unless it has every share
  pub record IsPlaced (max seats : ℕ) (items : List T) (tallies : List Tally) : Type 0 where
    pub once_each : (x : ℕ) → sum_over (λ s. one_where x (measure.number s)) items + sum_over (λ (v : Tally). copies x v.held) tallies ≡ once_below x max
    pub all : length items + sum_over (λ (v : Tally). length v.held) tallies ≡ max
    pub shares : sum_over (λ (v : Tally). v.share) tallies ≡ seats
    pub each : (seat : ℕ) (v : Tally) → get_elem? tallies seat ≡ some v → (v.share ≡ seats) ⊎ (length v.held ≤ min 1 v.share)

  -- each sum is in balance, and a seat that was joined to another one has none
  pub record IsBalanced (items : List T) (tallies : List Tally) : Type 0 where
    pub slots : Balances (λ _. 1) (λ a. a.slots) items tallies
    pub empty : Balances measure.empty (λ a. a.empty) items tallies
    pub idle : (seat : ℕ) (v : Tally) → get_elem? tallies seat ≡ some v → v.share ≡ 0 → (v.taken ≡ no_sums) × (v.given ≡ no_sums)

  -- the rule, of so many slots and shares, of what is in the queue and of the tallies of all seats
  pub record ObeysSlotRule (max seats : ℕ) (items : List T) (tallies : List Tally) : Type 0 where
    pub placed : IsPlaced max seats items tallies
    pub balanced : IsBalanced items tallies
