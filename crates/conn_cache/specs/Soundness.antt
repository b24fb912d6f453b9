-- The statements of a cache stand for their texts.
use Rattle.std.specs.Prelude.{◌≡◌, ℕ, Bool, true, List, [], ◌∷◌, Some, None, Option, Result, Ok, Err, slice_get, ⊤}
use Rattle.conn_result.specs.declared.error.Error.{Error}
use Rattle.conn_model.specs.declared.cache.CacheEntry.{CacheEntry}
use Rattle.conn_cache.specs.declared.statement_cache.MaybeCached.{MaybeCached}
use Rattle.conn_cache.specs.declared.statement_cache.MaybeCached.TheVariants.{CannotCache, Cached}
use Rattle.conn_cache.specs.Preparers.{IsApart}
use Rattle.conn_model.specs.Caches.{Cache}

-- each statement stands for its entry's text
abbrev pub AreOwn : {T : Type 0} → (T → List ℕ → Type 0) → List CacheEntry → List T → Type 0
AreOwn stands [] [] = ⊤
AreOwn stands [] (t ∷ ts) = ⊥
AreOwn stands (e ∷ es) [] = ⊥
AreOwn stands (e ∷ es) (t ∷ ts) = stands t e.sql × AreOwn stands es ts

-- no statement is there twice
abbrev pub AreApart : {T : Type 0} → List T → Type 0
AreApart [] = ⊤
AreApart (t ∷ ts) = IsApart t ts × AreApart ts

-- a cache over a preparer: each statement stands for its entry's text, and none is there twice
pub record IsSound {T : Type 0} (stands : T → List ℕ → Type 0) (cache : Cache T) : Type 0 where
  pub own : AreOwn stands cache.register.entries cache.statements
  pub apart : AreApart cache.statements

-- the statement at the place, where there is one, stands for the text
abbrev pub IsOwnStatement : {T : Type 0} → (T → List ℕ → Type 0) → List ℕ → Option T → Type 0
IsOwnStatement stands sql None = ⊥
IsOwnStatement stands sql (Some t) = stands t sql

-- a statement that is given stands for the text; one that isn't kept does so where the preparer says it
abbrev pub IsOwnAnswer : {T : Type 0} → (T → List ℕ → Type 0) → Bool → List ℕ → List T → Result (MaybeCached T) Error → Type 0
IsOwnAnswer stands serves_no sql ts (Ok (CannotCache t)) = serves_no ≡ true → stands t sql
IsOwnAnswer stands serves_no sql ts (Ok (Cached place)) = IsOwnStatement stands sql (slice_get ts place)
IsOwnAnswer stands serves_no sql ts (Err e) = ⊤
