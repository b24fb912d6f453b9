-- The rule of a pool, of the slots of connections.
use Rattle.std.specs.Prelude.{ℕ, List, ◌≡◌, if◌then◌else◌, is_some}
use mathlib.Core.Option.{some}
use lib.ListN.{get_elem?}
use Rattle.conn_pool.specs.SlotViews.{SlotView}
use Rattle.shared_pool.specs.SlotRules.{after_pop, after_push, Measure, ObeysSlotRule}
use Rattle.shared_pool.specs.declared.tally.Tally.{Tally}

module _ {C : Type 0} where
  -- 1 where a slot is empty, and else 0
  abbrev pub empty_of : SlotView C → ℕ
  empty_of s = if is_some s.kept then 0 else 1

  -- what the rule reads of a slot
  abbrev pub slot_measure : Measure (SlotView C)
  slot_measure = record { number = λ s. s.number; empty = empty_of }

  -- the tally after this slot left the queue for the seat
  abbrev pub after_take : Tally → SlotView C → Tally
  after_take v s = after_pop slot_measure v s

  -- the tally after this slot left the seat for the queue
  abbrev pub after_give : Tally → SlotView C → Tally
  after_give v s = after_push slot_measure v s

  -- the rule holds of these slots in the queue and of the tallies of all seats, of which this is one
  pub record RuleAt (max seats : ℕ) (v : Tally) (items : List (SlotView C)) : Type 0 where
    pub tallies : List Tally
    pub seat : ℕ
    pub mine : get_elem? tallies seat ≡ some v
    pub rule : ObeysSlotRule slot_measure max seats items tallies
