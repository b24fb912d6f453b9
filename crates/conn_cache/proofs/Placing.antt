-- Where the first entry of a key stands.
use Rattle.std.proofs.Common.{◌≡◌, ℕ, zero, suc, ◌+◌, true, false, List, [], ◌∷◌, ◌++◌, length, Some, None, ap, ◌∙◌, refl, arith}
use Rattle.std.specs.Prelude.{if◌then◌else◌, slice_get}
use Rattle.conn_model.specs.declared.cache.CacheEntry.{CacheEntry}
use Rattle.conn_cache.specs.declared.key.StatementCacheKey.{StatementCacheKey}
use Rattle.conn_cache.specs.KeyLaws.{key_equiv}
use Rattle.conn_cache.specs.Keys.{same_key}
use Rattle.conn_cache.specs.Registers.{entry_key, place_from}

-- a place that was found of entries, the first of which has this place
pub record IsPlace (place : ℕ) (es : List CacheEntry) (p : ℕ × CacheEntry) : Type 0 where
  pub behind : ℕ
  pub is : p.0 ≡ place + behind
  pub stands : slice_get es behind ≡ Some p.1

some-same : {A : Type 0} (a b : A) → Some a ≡ Some b → a ≡ b
some-same a b e = cc

one-on : (place : ℕ) (e : CacheEntry) (es : List CacheEntry) (p : ℕ × CacheEntry) → IsPlace (place + 1) es p → IsPlace place (e ∷ es) p
one-on place e es p h = record { behind = suc h.behind; is = omega (arith, h.is); stands = h.stands }

pub found_place : (key : StatementCacheKey) (place : ℕ) (es : List CacheEntry) (p : ℕ × CacheEntry) → place_from key place es ≡ Some p → IsPlace place es p
found_place key place [] p h = absurd (cc)
found_place key place (e ∷ es) p h =
    elim (same_key (entry_key e) key) as (λ b. (if b then Some (place, e) else place_from key (place + 1) es) ≡ Some p → IsPlace place (e ∷ es) p) [
      | true ↦ (λ g. let here = some-same (place, e) p g in record { behind = zero; is = omega (arith, ap (λ (q : ℕ × CacheEntry). q.0) here); stands = ap (λ (q : ℕ × CacheEntry). Some q.1) here })
      | false ↦ (λ g. one-on place e es p (found_place key (place + 1) es p g))
    ] h

pub place_kept : (key : StatementCacheKey) (place : ℕ) (es more : List CacheEntry) (p : ℕ × CacheEntry) → place_from key place es ≡ Some p → place_from key place (es ++ more) ≡ Some p
place_kept key place [] more p h = absurd (cc)
place_kept key place (e ∷ es) more p h =
    elim (same_key (entry_key e) key) as (λ b. (if b then Some (place, e) else place_from key (place + 1) es) ≡ Some p → (if b then Some (place, e) else place_from key (place + 1) (es ++ more)) ≡ Some p) [
      | true ↦ (λ g. g)
      | false ↦ (λ g. place_kept key (place + 1) es more p g)
    ] h

pub place_behind : (key : StatementCacheKey) (place : ℕ) (es more : List CacheEntry) → place_from key place es ≡ None → place_from key place (es ++ more) ≡ place_from key (place + length es) more
place_behind key place [] more h = ap (λ (n : ℕ). place_from key n more) (omega arith)
place_behind key place (e ∷ es) more h =
    elim (same_key (entry_key e) key) as (λ b. (if b then Some (place, e) else place_from key (place + 1) es) ≡ None → (if b then Some (place, e) else place_from key (place + 1) (es ++ more)) ≡ place_from key (place + suc (length es)) more) [
      | true ↦ (λ g. absurd (cc))
      | false ↦ (λ g. place_behind key (place + 1) es more g ∙ ap (λ (n : ℕ). place_from key n more) (omega arith))
    ] h

-- keys that are one find the same
same-beside : (x key other : StatementCacheKey) → same_key key other ≡ true → same_key x key ≡ same_key x other
same-beside x key other h = key_equiv.symm x key ∙ key_equiv.congr key other x h ∙ key_equiv.symm other x

pub place_beside : (key other : StatementCacheKey) → same_key key other ≡ true → (place : ℕ) (es : List CacheEntry) → place_from key place es ≡ place_from other place es
place_beside key other h place [] = refl
place_beside key other h place (e ∷ es) = λ i. if same-beside (entry_key e) key other h i then Some (place, e) else place_beside key other h (place + 1) es i
