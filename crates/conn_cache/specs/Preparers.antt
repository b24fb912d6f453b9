-- What every preparer keeps.
use Rattle.std.specs.Prelude.{◌≡◌, ℕ, List, [], ◌∷◌, Bool, true, ⊤}
use Rattle.conn_result.specs.declared.error.Error.{Error}
use Rattle.conn_result.specs.declared.error.Error.TheVariants.{OutOfMemory, QueryIdClash, CounterExhausted}
use Rattle.conn_cache.specs.declared.preparer.PrepareForCache.{PrepareForCache}
use Rattle.conn_cache.specs.declared.preparer.PrepareForCache.TheVariants.{Yes, No}

-- an error that a preparer may answer: any but the cache's own three
abbrev pub IsPreparersError : Error → Type 0
IsPreparersError OutOfMemory = ⊥
IsPreparersError QueryIdClash = ⊥
IsPreparersError CounterExhausted = ⊥
IsPreparersError _ = ⊤

-- a statement that is prepared so stands for its text: one that is kept always, another where the preparer says so
abbrev pub IsServed : Bool → PrepareForCache → Type 0
IsServed serves_no (Yes counter) = ⊤
IsServed serves_no No = serves_no ≡ true

-- the statement stood for no text, and stands for this one now
pub record IsFresh {T : Type 0} (before after : T → List ℕ → Type 0) (t : T) (sql : List ℕ) : Type 0 where
  pub apart : (text : List ℕ) → before t text → ⊥
  pub stands : after t sql

-- each statement that stood for a text still does
abbrev pub StandStill : {T : Type 0} → (before after : T → List ℕ → Type 0) → Type 0
StandStill {T} before after = (u : T) (text : List ℕ) → before u text → after u text

-- the statement is none of these
abbrev pub IsApart : {T : Type 0} → T → List T → Type 0
IsApart t [] = ⊤
IsApart t (u ∷ us) = (u ≡ t → ⊥) × IsApart t us

-- each statement but these that stood for a text still does
abbrev pub StandBeside : {T : Type 0} → List T → (before after : T → List ℕ → Type 0) → Type 0
StandBeside {T} ts before after = (u : T) (text : List ℕ) → IsApart u ts → before u text → after u text

-- each of these stands for a text
abbrev pub EachStands : {T : Type 0} → (T → List ℕ → Type 0) → List T → Type 0
EachStands stands [] = ⊤
EachStands stands (t ∷ ts) = ((text : List ℕ) × stands t text) × EachStands stands ts
