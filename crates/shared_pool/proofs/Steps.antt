-- Each step keeps the rule of the pool, and what a seat learns of it.
use Rattle.std.proofs.Common.{◌≡◌, ℕ, ◌+◌, ◌-◌, ◌<◌, ◌≤◌, List, [], ◌∷◌, length, refl, sym, ◌∙◌, subst, arith, ◌⊎◌}
use mathlib.Core.Option.{some}
use lib.ListN.{get_elem?}
use Rattle.crossbeam_queue.specs.Fifo.{Pushes, Pops, Forks, Merges, Learns}
use Rattle.shared_pool.specs.declared.tally.Tally.{Tally}
use Rattle.shared_pool.specs.SlotRules.{after_join, after_pop, after_push, first_tally, newcomer, spent, with_share, HasSlot, HoldsAll, HoldsNone, IsBalanced, IsPlaced, IsSettled, Measure, ObeysSlotRule}
use Rattle.shared_pool.proofs.Totals.{none_left}
use Rattle.shared_pool.proofs.Places.{placed_push, placed_pop, placed_fork, placed_merge, placed_learn, placed_room, placed_share, placed_alone, placed_last, placed_first}
use Rattle.shared_pool.proofs.Balances.{balanced_push, balanced_pop, balanced_fork, balanced_merge, balanced_first, balanced_last}

module _ {T : Type 0} (measure : Measure T) (max seats : ℕ) where
  pub pushes : (n seat : ℕ) (v : Tally) (s : T) → HasSlot v (measure.number s) → 0 < v.share → Pushes (ObeysSlotRule measure max seats) n seat v s (λ w. w ≡ after_push measure v s)
  pushes n seat v s has live items tallies room h at = let w = after_push measure v s in
      (w, record { placed = placed_push measure max seats items tallies seat v w s at has refl refl h.placed; balanced = balanced_push measure items tallies seat v s at live h.balanced }, refl)

  pub pops : (seat : ℕ) (v : Tally) → (v.share ≡ seats) ⊎ (HoldsNone v × (0 < v.share)) → 0 < v.share → Pops (ObeysSlotRule measure max seats) seat v (λ s w. w ≡ after_pop measure v s)
  pops seat v may live s items tallies h at = let w = after_pop measure v s in
      (w, record { placed = placed_pop measure max seats items tallies seat v w s at may refl refl h.placed; balanced = balanced_pop measure items tallies seat v s at live h.balanced }, refl)

  pub forks : (seat : ℕ) (v : Tally) (share : ℕ) → length v.held ≤ 1 → 0 < share → share < v.share → Forks (ObeysSlotRule measure max seats) seat v (with_share v (v.share - share)) (newcomer share)
  forks seat v share one some_share less items tallies h at = record {
    placed = placed_fork measure max seats items tallies seat v (with_share v (v.share - share)) (newcomer share) at one refl refl (omega arith) (omega arith) h.placed;
    balanced = balanced_fork measure items tallies seat v share at some_share less h.balanced;
  }

  pub merges : (seat : ℕ) (v : Tally) (other : ℕ) (u : Tally) → HoldsNone u → 0 < u.share → Merges (ObeysSlotRule measure max seats) seat v other u (after_join v u) spent
  merges seat v other u empty live items tallies h at apart at' = record {
    placed = placed_merge measure max seats items tallies seat other v u (after_join v u) spent at at' refl refl empty live refl refl apart h.placed;
    balanced = balanced_merge measure items tallies seat other v u at at' live h.balanced;
  }

  -- a seat that holds nothing finds no slot only where there are more seats than slots
  pub looks : (v : Tally) (items : List T) (tallies : List Tally) (seat : ℕ) → 0 < v.share → HoldsNone v → length items ≡ 0 → get_elem? tallies seat ≡ some v → ObeysSlotRule measure max seats items tallies → max < seats
  looks v items tallies seat live empty none at h = let few = placed_learn measure max seats items tallies seat v at empty live h.placed in omega (arith, few, live, none)

  pub rooms : (seat : ℕ) (v : Tally) → Learns (ObeysSlotRule measure max seats) seat v (λ items. length items + length v.held ≤ max)
  rooms seat v items tallies h at = placed_room measure max seats items tallies seat v at h.placed

  pub counts : (seat : ℕ) (v : Tally) → Learns (ObeysSlotRule measure max seats) seat v (λ items. v.share ≤ seats)
  counts seat v items tallies h at = placed_share measure max seats items tallies seat v at h.placed

  -- what the only seat doesn't hold is in the queue
  pub drains : (seat : ℕ) (v : Tally) → 0 < v.share → Learns (ObeysSlotRule measure max seats) seat v (λ items. v.share ≡ seats → length items + length v.held ≡ max)
  drains seat v live items tallies h at = λ alone. placed_alone measure max seats items tallies seat v at live alone h.placed

  pub settles : (seat : ℕ) (v : Tally) → 0 < v.share → Learns (ObeysSlotRule measure max seats) seat v (λ items. v.share ≡ seats → length v.held ≡ max → IsSettled v × HoldsAll max v)
  settles seat v live items tallies h at = λ alone full.
      let n : length items + length v.held ≡ max = placed_alone measure max seats items tallies seat v at live alone h.placed in
      let none : items ≡ [] = none_left items (omega arith) in (
        balanced_last measure tallies seat v at (h.placed.shares ∙ sym alone) (subst (λ (l : List T). IsBalanced measure l tallies) none h.balanced),
        placed_last measure max seats tallies seat v at live alone (subst (λ (l : List T). IsPlaced measure max seats l tallies) none h.placed),
      )

  pub begins : ObeysSlotRule measure max seats [] (first_tally max seats ∷ [])
  begins = record { placed = placed_first measure max seats; balanced = balanced_first measure (first_tally max seats) (refl, refl) }
