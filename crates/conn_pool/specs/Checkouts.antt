-- What a check-out and a check-in do, by what the manager and the customizer do.
use Rattle.std.specs.Prelude.{ℕ, ◌≡◌, ◌≤◌, ◌+◌, ⊤, ◌⊎◌, Bool, true, false, Option, Some, None, Result, Ok, Err, List, [], ◌∷◌, ◌++◌, MatchResult}
use Rattle.conn_result.specs.declared.error.ConnectionError.{ConnectionError as OpeningFault}
use Rattle.conn_manager.specs.Manages.{Reply}
use Rattle.conn_manager.specs.Statuses.{is_broken}
use Rattle.conn_manager.specs.Views.{View}
use Rattle.conn_result.specs.PoolErrors.{opening_error, query_error}
use Rattle.conn_pool.specs.ErrorCauses.{IsServedCaused}
use Rattle.conn_pool.specs.SlotViews.{SlotView, PoolView, empty_slot, idle_of, with_slots}
use Rattle.conn_result.specs.declared.pool.Error.{Error}
use Rattle.conn_result.specs.declared.pool.Error.TheVariants.{LeftOpen}
use Rattle.conn_result.specs.declared.pool.PoolError.{PoolError}
use Rattle.conn_result.specs.declared.pool.PoolError.TheVariants as pool_errors
use Rattle.conn_result.specs.declared.pool.PoolError.TheVariants.{NoneFree, TimedOut}
use Rattle.conn_pool.specs.declared.pooled.PooledConnection.{PooledConnection}

-- an answer as contracts see it: of a connection, what is seen of it
abbrev pub seen_answer : {C : Type 0} → (C → View) → Result C Error → Result View Error
seen_answer view (Ok c) = Ok (view c)
seen_answer view (Err e) = Err e

-- the manager looked at a connection, and closed it
pub record ClosesBroken {M : Type 0} (closes : M → M → View → Type 0) (stays : M → M → Type 0) (old new : M) (v : View) : Type 0 where
  pub mid : M
  pub looked : stays old mid
  pub closed : closes mid new v

module _ {M : Type 0} (closes : M → M → View → Type 0) (stays : M → M → Type 0) where
  -- a connection that comes back is kept, or closed where it is broken
  abbrev pub ChecksIn : M → M → View → Bool → Type 0
  ChecksIn old new v true = (is_broken v.status ≡ false) × stays old new
  ChecksIn old new v false = (is_broken v.status ≡ true) × ClosesBroken closes stays old new v

  -- by whether a new connection is broken: it is handed out, or closed since a transaction was left open
  abbrev pub Inspects : M → M → View → Bool → Result View Error → Type 0
  Inspects old new v false answer = (answer ≡ Ok v) × stays old new
  Inspects old new v true answer = (answer ≡ Err (LeftOpen v.seen.number)) × ClosesBroken closes stays old new v

  -- by the customizer's reply: the new connection is looked at, or closed
  abbrev pub Customizes : M → M → View → Reply → Result View Error → Type 0
  Customizes old new v (Ok u) answer = Inspects old new v (is_broken v.status) answer
  Customizes old new v (Err e) answer = (answer ≡ Err (query_error e v.seen.number)) × closes old new v

-- a connection was opened, and the customizer asked
pub record FillsNew {M : Type 0} (opens closes : M → M → View → Type 0) (stays : M → M → Type 0) (acquires : View → View → Reply → Type 0) (old new : M) (answer : Result View Error) : Type 0 where
  pub mid : M
  pub opened : View
  pub after : View
  pub reply : Reply
  pub connected : opens old mid opened
  pub acquired : acquires opened after reply
  pub ends : Customizes closes stays mid new after reply answer

-- no connection was opened
pub record FillsNone {M : Type 0} (fails : M → M → OpeningFault → Type 0) (old new : M) (answer : Result View Error) : Type 0 where
  pub fault : OpeningFault
  pub failed : fails old new fault
  pub answer_is : answer ≡ Err (opening_error fault)

-- an empty slot is filled, or not
abbrev pub Fills : {M : Type 0} → (M → M → View → Type 0) → (M → M → OpeningFault → Type 0) → (M → M → View → Type 0) → (M → M → Type 0) → (View → View → Reply → Type 0) → M → M → Result View Error → Type 0
Fills opens fails closes stays acquires old new answer = FillsNew opens closes stays acquires old new answer ⊎ FillsNone fails old new answer

-- by the reply to its check, a kept connection is handed out or closed
abbrev pub Judges : {M : Type 0} → (M → M → View → Type 0) → M → M → View → Reply → Result View Error → Type 0
Judges closes old new v (Ok u) answer = (answer ≡ Ok v) × (new ≡ old)
Judges closes old new v (Err e) answer = (answer ≡ Err (query_error e v.seen.number)) × closes old new v

-- a kept connection was checked, is the same one, and was handed out or closed
pub record ChecksKept {M : Type 0} (checks : M → M → View → View → Reply → Type 0) (closes : M → M → View → Type 0) (old new : M) (v : View) (answer : Result View Error) : Type 0 where
  pub mid : M
  pub after : View
  pub reply : Reply
  pub checked : checks old mid v after reply
  pub same_number : after.seen.number ≡ v.seen.number
  pub ends : Judges closes mid new after reply answer

-- by whether checks are wanted: a kept connection is handed out as it is, or checked
abbrev pub Reuses : {M C : Type 0} → (M → M → View → View → Reply → Type 0) → (M → M → View → Type 0) → (C → View) → Bool → M → M → C → Result C Error → Type 0
Reuses checks closes view false old new c answer = (answer ≡ Ok c) × (new ≡ old)
Reuses checks closes view true old new c answer = ChecksKept checks closes old new (view c) (seen_answer view answer)

-- by what a slot keeps: an empty one is filled, a kept connection is used again
abbrev pub Serves : {M C : Type 0} → (C → View) → (M → M → Result View Error → Type 0) → (M → M → C → Result C Error → Type 0) → M → M → Option C → Result C Error → Type 0
Serves view fills reuses old new None answer = fills old new (seen_answer view answer)
Serves view fills reuses old new (Some c) answer = reuses old new c answer

-- a slot was served: a connection is handed out for it, or it is empty
abbrev pub ServesSlot : {M C : Type 0} → (C → View) → (M → M → Result View Error → Type 0) → (M → M → C → Result C Error → Type 0) → M → M → SlotView C → Result (PooledConnection C) (SlotView C × Error) → Type 0
ServesSlot view fills reuses old new s result =
    MatchResult result (λ p. (p.slot ≡ s.number) × Serves view fills reuses old new s.kept (Ok p.connection)) (λ e. (e.0 ≡ empty_slot s.number) × Serves view fills reuses old new s.kept (Err e.1))

-- a connection that may be closed needs room for it, unless its opening makes that
abbrev pub HasRoom : {C : Type 0} → Bool → Option C → ℕ → Type 0
HasRoom raises None room = raises ≡ false → 1 ≤ room
HasRoom raises (Some c) room = 1 ≤ room

-- so it is by the front slot
abbrev pub HasRoomForFront : {C : Type 0} → Bool → List (SlotView C) → ℕ → Type 0
HasRoomForFront raises [] room = ⊤
HasRoomForFront raises (s ∷ rest) room = HasRoom raises s.kept room

-- the room before and after a slot was served still suffices for the connection that it kept, and for the one that was handed out
abbrev pub KeepsRoom : {C T E : Type 0} → SlotView C → ℕ → ℕ → Result T E → Type 0
KeepsRoom s before now result = MatchResult result (λ _. before + 1 ≤ now + idle_of s) (λ _. before ≤ now + idle_of s)

-- the cause of a pool's error, by the front slot
abbrev pub IsFrontCaused : {C : Type 0} → Bool → List (SlotView C) → ℕ → ℕ → PoolError → Type 0
IsFrontCaused may_refuse [] before now e = e ≡ NoneFree
IsFrontCaused may_refuse (s ∷ rest) before now NoneFree = ⊥
IsFrontCaused may_refuse (s ∷ rest) before now (TimedOut looks) = ⊥
IsFrontCaused may_refuse (s ∷ rest) before now (pool_errors.Error e) = IsServedCaused may_refuse s.kept before now e

module _ {M C : Type 0} (view : C → View) (fills : M → M → Result View Error → Type 0) (reuses : M → M → C → Result C Error → Type 0) where
  -- the front slot was taken, and a connection handed out for it
  pub record ChecksOut (pool pool' : PoolView C) (old new : M) (s : SlotView C) (rest : List (SlotView C)) (p : PooledConnection C) : Type 0 where
    pub slot_is : p.slot ≡ s.number
    pub pool_is : pool' ≡ with_slots pool rest
    pub served : Serves view fills reuses old new s.kept (Ok p.connection)

  -- the front slot was taken, and is empty at the back
  pub record Refuses (pool pool' : PoolView C) (old new : M) (s : SlotView C) (rest : List (SlotView C)) (e : PoolError) : Type 0 where
    pub error : Error
    pub error_is : e ≡ pool_errors.Error error
    pub pool_is : pool' ≡ with_slots pool (rest ++ empty_slot s.number ∷ [])
    pub served : Serves view fills reuses old new s.kept (Err error)

  -- by the slots that are in the pool
  abbrev pub TriesGet : PoolView C → PoolView C → M → M → List (SlotView C) → Result (PooledConnection C) PoolError → Type 0
  TriesGet pool pool' old new [] result = (result ≡ Err NoneFree) × (pool' ≡ pool) × (new ≡ old)
  TriesGet pool pool' old new (s ∷ rest) result = MatchResult result (ChecksOut pool pool' old new s rest) (Refuses pool pool' old new s rest)
