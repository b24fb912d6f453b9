-- What a look-up does.
use Rattle.std.specs.Prelude.{◌≡◌, ◌⊎◌, ℕ, ◌+◌, ◌<◌, ◌≤◌, Bool, true, false, List, [], ◌∷◌, ◌++◌, length, Option, Some, None, Result, Ok, Err, OnOk, IfErr, is_ok, ⊤}
use Rattle.conn_result.specs.Causes.{Rose}
use Rattle.conn_result.specs.declared.error.Error.{Error}
use Rattle.conn_result.specs.declared.error.Error.TheVariants.{OutOfMemory, QueryIdClash, CounterExhausted}
use Rattle.conn_model.specs.Events.{CacheQuery, Heeded, with_events}
use Rattle.conn_model.specs.declared.value.BindType.{BindType}
use Rattle.conn_cache.specs.declared.entry.Due.{Due}
use Rattle.conn_cache.specs.declared.entry.Due.TheVariants.{Plain, Found, Clash, Exhausted, New}
use Rattle.conn_cache.specs.declared.preparer.PrepareForCache.{PrepareForCache}
use Rattle.conn_cache.specs.declared.preparer.PrepareForCache.TheVariants.{Yes, No}
use Rattle.conn_cache.specs.declared.statement_cache.MaybeCached.{MaybeCached}
use Rattle.conn_cache.specs.declared.statement_cache.MaybeCached.TheVariants.{CannotCache, Cached}
use Rattle.conn_cache.specs.Preparers.{IsPreparersError}
use Rattle.conn_cache.specs.QueryViews.{QueryView}
use Rattle.conn_model.specs.Caches.{Cache}
use Rattle.conn_cache.specs.Registers.{due, register_after}

-- a place that is given is one of so many
abbrev pub IsCachedWithin : {T : Type 0} → ℕ → MaybeCached T → Type 0
IsCachedWithin places (CannotCache t) = ⊤
IsCachedWithin places (Cached place) = place < places

-- the statements after a prepare: one more where it was accepted
abbrev pub statements_after : {T : Type 0} → Result T Error → List T → List T
statements_after (Ok t) ts = ts ++ t ∷ []
statements_after (Err e) ts = ts

-- a prepare's answer, where the statement isn't kept
abbrev pub plain_answer : {T : Type 0} → Result T Error → Result (MaybeCached T) Error
plain_answer (Ok t) = Ok (CannotCache t)
plain_answer (Err e) = Err e

-- a prepare's answer, where the statement is kept at this place
abbrev pub new_answer : {T : Type 0} → ℕ → Result T Error → Result (MaybeCached T) Error
new_answer place (Ok t) = Ok (Cached place)
new_answer place (Err e) = Err e

-- memory is taken for a new entry, and for the key of a query without a number
abbrev pub takes_memory : Option ℕ → Due → Bool
takes_memory id Plain = false
takes_memory id New = true
takes_memory None due = true
takes_memory (Some id) due = false

-- why a look-up answers what it does: an error that a preparer may answer was counted by it, and nothing else was
pub record HasPreparersCause {A : Type 0} (before now : ℕ) (result : Result A Error) : Type 0 where
  pub later : before ≤ now
  pub unfailed : OnOk result (now ≡ before)
  pub failed : IfErr result (λ e. IsPreparersError e → Rose before now)
  pub uncounted : IfErr result (λ e. (IsPreparersError e → ⊥) → now ≡ before)

-- caches of statements T, what one prepare of a preparer does, what a handler was told; a query with types of its binds; the
-- three before and after, and the answer
module _ {P T I : Type 0} (prepares : P → List ℕ → PrepareForCache → List BindType → Result T Error → P → Type 0) (told : I → Heeded) (q : QueryView) (types : List BindType) (old new : Cache T) (p p' : P) (i i' : I) (result : Result (MaybeCached T) Error) where
  -- a statement was prepared that isn't kept, and the cache is as before
  pub record PreparesPlain : Type 0 where
    pub answer : Result T Error
    pub did : prepares p q.sql No types answer p'
    pub gives : result ≡ plain_answer answer
    pub cache : new ≡ old
    pub untold : i' ≡ i

  -- the next number was given and the handler told, and a statement was prepared, which is kept where it was accepted
  pub record PreparesNew : Type 0 where
    pub answer : Result T Error
    pub did : prepares p q.sql (Yes (old.register.counter + 1)) types answer p'
    pub gives : result ≡ new_answer (length old.statements) answer
    pub register : new.register ≡ register_after q types (is_ok answer) old.register
    pub statements : new.statements ≡ statements_after answer old.statements
    pub heeds : told i' ≡ with_events (told i) (CacheQuery q.sql ∷ [])

  -- this was answered, and nothing else happened
  pub record AnswersOnly (answer : Result (MaybeCached T) Error) : Type 0 where
    pub gives : result ≡ answer
    pub cache : new ≡ old
    pub preparer : p' ≡ p
    pub untold : i' ≡ i

  -- memory was wanting, where some is taken
  pub record WantsMemory (d : Due) : Type 0 where
    pub takes : takes_memory q.id d ≡ true
    pub only : AnswersOnly (Err OutOfMemory)

  -- what is done where this is due
  abbrev pub LooksUpBy : Due → Type 0
  LooksUpBy Plain = PreparesPlain
  LooksUpBy (Found place) = AnswersOnly (Ok (Cached place))
  LooksUpBy Clash = AnswersOnly (Err QueryIdClash)
  LooksUpBy Exhausted = AnswersOnly (Err CounterExhausted)
  LooksUpBy New = PreparesNew

  -- what is done where a new entry is due
  abbrev pub Adds : Type 0
  Adds = AnswersOnly (Err OutOfMemory) ⊎ PreparesNew

  -- what a look-up does
  abbrev pub LooksUp : Type 0
  LooksUp = WantsMemory (due q types old.register) ⊎ LooksUpBy (due q types old.register)
