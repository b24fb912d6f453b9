-- The slots of a pool, as contracts see them.
use Rattle.std.specs.Prelude.{ℕ, ◌≡◌, ◌+◌, ◌-◌, ◌<◌, ◌≤◌, length, zero, suc, if◌then◌else◌, is_some, List, [], ◌∷◌, ◌++◌, Bool, true, false, Option, Some, None, MatchOption}
use Rattle.std.specs.List.{sum_by}
use Rattle.std.specs.Option.{option_map}
use Rattle.conn_manager.specs.Views.{View}
use Rattle.conn_pool.specs.declared.pool_core.State.{State}

-- a slot: its number, and the connection that it keeps, where it isn't empty
pub record SlotView (C : Type 0) : Type 0 where
  pub number : ℕ
  pub kept : Option C

-- the slots that are in the pool, front first, and how many there are with those that are out
pub record PoolView (C : Type 0) : Type 0 where
  pub slots : List (SlotView C)
  pub max_size : ℕ

module _ {C : Type 0} where
  -- an empty slot
  abbrev pub empty_slot : ℕ → SlotView C
  empty_slot number = record { number = number; kept = None }

  -- so many empty slots, by their numbers from 0
  abbrev pub empty_slots : ℕ → List (SlotView C)
  empty_slots zero = []
  empty_slots (suc n) = empty_slots n ++ empty_slot n ∷ []

  -- a pool with these slots in it
  abbrev pub with_slots : PoolView C → List (SlotView C) → PoolView C
  with_slots pool slots = record { slots = slots; max_size = pool.max_size }

  -- a slot goes to the back
  abbrev pub with_slot : PoolView C → SlotView C → PoolView C
  with_slot pool slot = with_slots pool (pool.slots ++ slot ∷ [])

  -- the front slot was taken, where there is one
  abbrev pub TakesFront : PoolView C → PoolView C → Option (SlotView C) → Type 0
  TakesFront old new result =
      MatchOption result ((old.slots ≡ []) × (new ≡ old)) (λ s. (old.slots ≡ s ∷ new.slots) × (new.max_size ≡ old.max_size) × (length new.slots < new.max_size))

  -- a slot of this number is at the back, and keeps a connection with this view, or none
  pub record GivesBack (view : C → View) (old new : PoolView C) (number : ℕ) (kept : Option View) : Type 0 where
    pub slot : SlotView C
    pub number_is : slot.number ≡ number
    pub kept_is : option_map view slot.kept ≡ kept
    pub pool_is : new ≡ with_slot old slot

  -- one where a connection is kept
  abbrev pub idle_of : SlotView C → ℕ
  idle_of s = if is_some s.kept then 1 else 0

  -- how many slots keep a connection
  abbrev pub idle_in : List (SlotView C) → ℕ
  idle_in slots = sum_by idle_of slots

  -- the connections that are kept, and these with the slots that are out
  abbrev pub pool_state : PoolView C → State
  pool_state pool = record { connections = (pool.max_size - length pool.slots) + idle_in pool.slots; idle_connections = idle_in pool.slots }

  -- each connection, kept or out, can be closed
  abbrev pub HasRoomForAll : PoolView C → ℕ → Type 0
  HasRoomForAll pool room = (pool_state pool).connections ≤ room

-- what a connection that comes back leaves in its slot: it is kept, or was closed
abbrev pub kept_view : View → Bool → Option View
kept_view v true = Some v
kept_view v false = None
