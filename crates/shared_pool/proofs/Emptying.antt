-- A pool is emptied slot by slot.
use Rattle.std.proofs.Common.{◌≡◌, ℕ, ◌+◌, ◌<◌, ◌≤◌, List, [], ◌∷◌, ◌++◌, length, Option, Some, None, is_some, if◌then◌else◌, refl, sym, ap, ◌∙◌, arith, subst, length-append}
use Rattle.std.proofs.lemmas.List.Sums.{sum_by-cons, sum_by_push}
use Rattle.conn_manager.specs.Views.{View}
use Rattle.conn_pool.specs.SlotViews.{SlotView, idle_in, idle_of}
use Rattle.shared_pool.specs.declared.tally.Tally.{Tally}
use Rattle.shared_pool.specs.SlotMeasures.{after_take}
use Rattle.shared_pool.specs.SharedCheckouts.{after_pops, ClosesEach, ClosesKept, Empties}

after_pops-push : {C : Type 0} (v : Tally) (slots : List (SlotView C)) (s : SlotView C) → after_pops v (slots ++ s ∷ []) ≡ after_take (after_pops v slots) s
after_pops-push v [] s = refl
after_pops-push v (t ∷ rest) s = after_pops-push (after_take v t) rest s

one_at_most : {C : Type 0} (kept : Option C) → (if is_some kept then 1 else 0) ≤ 1
one_at_most None = omega arith
one_at_most (Some c) = omega arith

idle_at_most : {C : Type 0} (slots : List (SlotView C)) → idle_in slots ≤ length slots
idle_at_most [] = omega arith
idle_at_most {C} (s ∷ rest) = omega (arith, sum_by-cons (idle_of {C = C}) s rest, one_at_most s.kept, idle_at_most rest)

module _ {M C : Type 0} (closes : M → M → View → Type 0) (view : C → View) where
  closes_push : (slots : List (SlotView C)) (s : SlotView C) (old mid new : M) → ClosesEach closes view old mid slots → ClosesKept closes view mid new s.kept → ClosesEach closes view old new (slots ++ s ∷ [])
  closes_push [] s old mid new same kept = (new, subst (λ (m : M). ClosesKept closes view m new s.kept) same kept, refl)
  closes_push (t ∷ rest) s old mid new each kept = (each.0, each.1, closes_push rest s each.0 mid new each.2 kept)

  module _ (room : M → ℕ) where
    -- no slot was taken yet
    pub empties_none : (v w : Tally) (old new : M) → w ≡ v → new ≡ old → Empties closes view room 0 v w old new
    empties_none v w old new tally manager = record { slots = []; count = refl; tally_is = tally; closed = manager; room_is = let e = ap room manager in omega (arith, e) }

    -- one more slot was taken, and what it keeps closed
    pub empties_more : (n : ℕ) (v w now : Tally) (old mid new : M) (s : SlotView C) → Empties closes view room n v w old mid → now ≡ after_take w s → ClosesKept closes view mid new s.kept
        → room new + idle_of s ≡ room mid → Empties closes view room (n + 1) v now old new
    empties_more n v w now old mid new s h tally kept left = record {
      slots = h.slots ++ s ∷ [];
      count = let e = h.count in omega (arith, e, length-append h.slots (s ∷ []));
      tally_is = tally ∙ (ap (λ (u : Tally). after_take u s) h.tally_is ∙ sym (after_pops-push v h.slots s));
      closed = closes_push h.slots s old mid new h.closed kept;
      room_is = let e = h.room_is in omega (arith, e, left, sum_by_push (idle_of {C = C}) h.slots s);
    }

    -- there is room to close one more
    pub room_left : (n max : ℕ) (v w : Tally) (old mid : M) → Empties closes view room n v w old mid → n < max → max ≤ room old → 1 ≤ room mid
    room_left n max v w old mid h fewer enough = let e = h.count in let f = h.room_is in omega (arith, e, f, idle_at_most h.slots, fewer, enough)
