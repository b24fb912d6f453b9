-- What check-outs and check-ins do on a pool that threads share.
use Rattle.std.specs.Prelude.{ℕ, ◌≡◌, ◌+◌, ◌-◌, ◌^◌, ◌<◌, min, length, List, [], ◌∷◌, Option, Some, None, Result, Ok, Err}
use Rattle.std.specs.Option.{option_map}
use Rattle.conn_manager.specs.Views.{View}
use Rattle.conn_pool.specs.SlotViews.{SlotView, empty_slot, idle_in}
use Rattle.conn_result.specs.declared.pool.Error.{Error}
use Rattle.conn_result.specs.declared.pool.PoolError.{PoolError}
use Rattle.conn_result.specs.declared.pool.PoolError.TheVariants as pool_errors
use Rattle.conn_result.specs.declared.pool.PoolError.TheVariants.{NoneFree, TimedOut}
use Rattle.conn_pool.specs.declared.pooled.PooledConnection.{PooledConnection}
use Rattle.shared_pool.specs.SlotMeasures.{after_take, after_give, RuleAt}
use Rattle.shared_pool.specs.declared.tally.Tally.{Tally}

-- no slot was found: at the last look all were with other seats, which can be only where there are more seats than slots
pub record FindsNone (C : Type 0) {M : Type 0} (max seats : ℕ) (before after : Tally) (old new : M) : Type 0 where
  pub tally_is : after ≡ before
  pub manager_is : new ≡ old
  pub all_out : RuleAt {C = C} max seats before []
  pub more_seats : max < seats

-- by what the manager and the customizer did for the slot, and by why they refused
module _ {C : Type 0} (served : Option C → Result C Error → Type 0) (caused : Option C → Error → Type 0) (before after : Tally) where
  -- a slot was taken, and a connection handed out for it
  pub record TakesSlot (p : PooledConnection C) : Type 0 where
    pub kept : Option C
    pub tally_is : after ≡ after_take before (record { number = p.slot; kept = kept })
    pub is_served : served kept (Ok p.connection)

  -- a slot was taken, and came back empty
  pub record ReturnsEmpty (e : Error) : Type 0 where
    pub slot : SlotView C
    pub tally_is : after ≡ after_give {C = C} (after_take before slot) (empty_slot slot.number)
    pub is_served : served slot.kept (Err e)
    pub is_caused : caused slot.kept e

  -- by the answer of one look, where `none` says that it found no slot
  abbrev pub AnswersOnce : Type 0 → Result (PooledConnection C) PoolError → Type 0
  AnswersOnce none (Ok p) = TakesSlot p
  AnswersOnce none (Err NoneFree) = none
  AnswersOnce none (Err (TimedOut looks)) = ⊥
  AnswersOnce none (Err (pool_errors.Error e)) = ReturnsEmpty e

  -- by the answer of so many looks at most, where `none` says that none of them found a slot
  abbrev pub AnswersWithin : ℕ → Type 0 → Result (PooledConnection C) PoolError → Type 0
  AnswersWithin most none (Ok p) = TakesSlot p
  AnswersWithin most none (Err NoneFree) = ⊥
  AnswersWithin most none (Err (TimedOut looks)) = (looks ≡ most) × none
  AnswersWithin most none (Err (pool_errors.Error e)) = ReturnsEmpty e

-- a slot of this number came back, which keeps a connection with this view, or none
pub record ReturnsSlot {C : Type 0} (view : C → View) (before after : Tally) (number : ℕ) (kept : Option View) : Type 0 where
  pub slot : SlotView C
  pub number_is : slot.number ≡ number
  pub kept_is : option_map view slot.kept ≡ kept
  pub tally_is : after ≡ after_give before slot

-- a count of looks after so many more, which stays at its end
abbrev pub more_looks : ℕ → ℕ → ℕ
more_looks before n = min (before + n) (2 ^ 64 - 1)

-- the empty looks after a check-out with one look
abbrev pub looks_after : {C : Type 0} → ℕ → Result C PoolError → ℕ
looks_after before (Ok p) = before
looks_after before (Err NoneFree) = more_looks before 1
looks_after before (Err (TimedOut looks)) = before
looks_after before (Err (pool_errors.Error e)) = before

-- how many looks found none, by the answer: all of them, or fewer
abbrev pub AllLooks : {C : Type 0} → ℕ → ℕ → Result C PoolError → Type 0
AllLooks most n (Ok p) = n < most
AllLooks most n (Err NoneFree) = ⊥
AllLooks most n (Err (TimedOut looks)) = n ≡ most
AllLooks most n (Err (pool_errors.Error e)) = n < most

-- the count of looks rose by those that found none
pub record CountsLooks {C : Type 0} (most before after : ℕ) (answer : Result C PoolError) : Type 0 where
  pub empty : ℕ
  pub empty_is : AllLooks most empty answer
  pub after_is : after ≡ more_looks before empty

-- the tally after these slots left the queue for the seat, one after the other
abbrev pub after_pops : {C : Type 0} → Tally → List (SlotView C) → Tally
after_pops v [] = v
after_pops v (s ∷ rest) = after_pops (after_take v s) rest

module _ {M C : Type 0} (closes : M → M → View → Type 0) (view : C → View) where
  -- what a slot keeps was closed
  abbrev pub ClosesKept : M → M → Option C → Type 0
  ClosesKept old new None = new ≡ old
  ClosesKept old new (Some c) = closes old new (view c)

  -- what these slots keep was closed, one after the other
  abbrev pub ClosesEach : M → M → List (SlotView C) → Type 0
  ClosesEach old new [] = new ≡ old
  ClosesEach old new (s ∷ rest) = (mid : M) × ClosesKept old mid s.kept × ClosesEach mid new rest

  -- so many slots were taken, and what they keep was closed
  pub record Empties (room : M → ℕ) (max : ℕ) (before after : Tally) (old new : M) : Type 0 where
    pub slots : List (SlotView C)
    pub count : length slots ≡ max
    pub tally_is : after ≡ after_pops before slots
    pub closed : ClosesEach old new slots
    pub room_is : room new + idle_in slots ≡ room old
