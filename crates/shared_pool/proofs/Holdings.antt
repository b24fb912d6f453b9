-- What a seat of a pool of connections holds, and what it finds.
use Rattle.std.proofs.Common.{◌≡◌, ℕ, ◌<◌, List, [], ◌∷◌, ◌++◌, Option, None, Some, MatchOption, IfNone, ap, ◌∙◌, arith, subst}
use Rattle.std.proofs.lemmas.Bool.Decides.{nat_tests}
use Rattle.crossbeam_queue.specs.Fifo.{Held, Learns}
use Rattle.conn_pool.specs.SlotViews.{SlotView}
use Rattle.shared_pool.specs.declared.tally.Tally.{Tally}
use Rattle.shared_pool.specs.Totals.{all_but, copies}
use Rattle.shared_pool.specs.SlotRules.{HasSlot, HoldsNone, HoldsOne, ObeysSlotRule}
use Rattle.shared_pool.specs.SlotMeasures.{after_give, after_take, slot_measure, RuleAt}
use Rattle.shared_pool.proofs.Totals.{none_left}
use Rattle.shared_pool.proofs.Steps.{looks}

pub one_held : (v : Tally) (n : ℕ) → HoldsOne v n → HasSlot v n
one_held v n h = let e : copies n v.held ≡ copies n (n ∷ []) = ap (copies n) h in grind (arith, nat_tests, e)

pub one_after_take : {C : Type 0} (v w : Tally) (s : SlotView C) → HoldsNone v → w ≡ after_take v s → HoldsOne w s.number
one_after_take v w s none is = ap (λ (u : Tally). u.held) is ∙ ap (λ (held : List ℕ). held ++ s.number ∷ []) none

all_but_one : (n : ℕ) → all_but n (n ∷ []) ≡ []
all_but_one n = grind (arith, nat_tests)

pub none_after_give : {C : Type 0} (v w : Tally) (s : SlotView C) → HoldsOne v s.number → w ≡ after_give v s → HoldsNone w
none_after_give v w s one is = ap (λ (u : Tally). u.held) is ∙ (ap (all_but s.number) one ∙ all_but_one s.number)

module _ (C : Type 0) (max seats : ℕ) (v : Tally) where
  -- a seat sees the rule at one moment
  pub sees : (seat : ℕ) → Learns (ObeysSlotRule (slot_measure {C = C}) max seats) seat v (RuleAt max seats v)
  sees seat items tallies h at = record { tallies = tallies; seat = seat; mine = at; rule = h }

  -- where a look found none, the rule held of an empty queue
  pub none_in : Held 0 (RuleAt {C = C} max seats v) → RuleAt {C = C} max seats v []
  none_in h = subst (RuleAt max seats v) (none_left h.0 h.1) h.2

  more_seats : 0 < v.share → HoldsNone v → Held 0 (RuleAt {C = C} max seats v) → max < seats
  more_seats live none h = let at = h.2 in looks slot_measure max seats v h.0 at.tallies at.seat live none h.1 at.mine at.rule

  -- and there are more seats than slots
  pub finds_none : {X : Type 0} (found : Option X) (same : Type 0) (takes : X → Type 0) → 0 < v.share → HoldsNone v → MatchOption found (same × Held 0 (RuleAt {C = C} max seats v)) takes → IfNone found (max < seats)
  finds_none None same takes live none h = more_seats live none h.1
  finds_none (Some x) same takes live none h = tt
