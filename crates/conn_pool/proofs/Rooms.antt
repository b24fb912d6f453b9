-- The room for a pool's connections, by its slots.
use Rattle.std.proofs.Common.{◌≡◌, ◌≤◌, ℕ, zero, suc, [], ◌∷◌, length, refl, ap, ◌∙◌, arith, length-append}
use Rattle.std.proofs.lemmas.List.Sums.{sum_by_push}
use Rattle.conn_pool.specs.SlotViews.{PoolView, HasRoomForAll, empty_slot, empty_slots, idle_in, idle_of}

all_in : (C : Type 0) (n : ℕ) → length (empty_slots {C = C} n) ≡ n
all_in C zero = refl
all_in C (suc n) = omega (arith, length-append (empty_slots {C = C} n) (empty_slot n ∷ []), all_in C n)

none_kept : (C : Type 0) (n : ℕ) → idle_in (empty_slots {C = C} n) ≡ 0
none_kept C zero = refl
none_kept C (suc n) = omega (arith, sum_by_push (idle_of {C = C}) (empty_slots n) (empty_slot n), none_kept C n)

module _ {C : Type 0} where
  -- a pool of empty slots has no connection
  pub empty_rooms : (pool : PoolView C) (n : ℕ) → pool.slots ≡ empty_slots n → pool.max_size ≤ n → HasRoomForAll pool 0
  empty_rooms pool n e most = omega (arith, most, ap length e ∙ all_in C n, ap idle_in e ∙ none_kept C n)
