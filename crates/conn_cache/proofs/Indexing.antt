-- The table of keys has the places of the entries.
use Rattle.std.proofs.Common.{◌≡◌, ℕ, ◌+◌, Bool, true, false, List, [], ◌∷◌, ◌++◌, length, Option, Some, None, ap, sym, ◌∙◌, refl, arith}
use Rattle.std.specs.Prelude.{if◌then◌else◌, slice_get, option_map}
use Rattle.conn_model.specs.declared.value.BindType.{BindType}
use Rattle.conn_cache.specs.declared.entry.Due.TheVariants.{Found, Clash}
use Rattle.conn_model.specs.declared.cache.CacheEntry.{CacheEntry}
use Rattle.conn_cache.specs.declared.key.StatementCacheKey.{StatementCacheKey}
use Rattle.conn_cache.specs.Keys.{KeyPlaces, key_of, place_at, same_key}
use Rattle.conn_cache.specs.QueryViews.{QueryView}
use Rattle.conn_cache.specs.Registers.{HasPlaces, due_at, entry_key, entry_of, is_entry_of, place_from}
use Rattle.conn_cache.proofs.Placing.{found_place, place_behind, place_beside, place_kept}

-- the entry at the place that a table has of a key
pub record IsFound (key : StatementCacheKey) (place : ℕ) (es : List CacheEntry) : Type 0 where
  pub entry : CacheEntry
  pub is : place_from key 0 es ≡ Some (place, entry)
  pub stands : slice_get es place ≡ Some entry

module _ (key : StatementCacheKey) (place : ℕ) (es : List CacheEntry) where
  found-at : (p : ℕ × CacheEntry) → place_from key 0 es ≡ Some p → place ≡ p.0 → IsFound key place es
  found-at p is at =
      let there = found_place key 0 es p is in
      record {
        entry = p.1;
        is = is ∙ ap (λ (n : ℕ). Some (n, p.1)) (sym at);
        stands = ap (λ (n : ℕ). slice_get es n) (omega (arith, at, there.is)) ∙ there.stands;
      }

  found-by : (o : Option (ℕ × CacheEntry)) → place_from key 0 es ≡ o → Some place ≡ option_map (λ (p : ℕ × CacheEntry). p.0) o → IsFound key place es
  found-by None is at = absurd (cc)
  found-by (Some p) is at = found-at p is (cc)

  pub found_entry : (table : KeyPlaces) → HasPlaces table es → Some place ≡ place_at table key → IsFound key place es
  found_entry table indexed at = found-by (place_from key 0 es) refl (at ∙ indexed key)

-- what is due where an entry was found
module _ (q : QueryView) (types : List BindType) (counter : ℕ) (key : StatementCacheKey) (place : ℕ) (es : List CacheEntry) (e : CacheEntry) where
  due-of : (d : CacheEntry) → slice_get es place ≡ Some d → slice_get es place ≡ Some e → d ≡ e
  due-of d h g = cc

  pub found_due : IsFound key place es → slice_get es place ≡ Some e → (b : Bool) → b ≡ is_entry_of q types e → due_at q types counter (place_from key 0 es) ≡ (if b then Found place else Clash)
  found_due f at b is =
      ap (due_at q types counter) f.is ∙ ap (λ (d : CacheEntry). if is_entry_of q types d then Found place else Clash) (due-of f.entry f.stands at)
      ∙ ap (λ (x : Bool). if x then Found place else Clash) (sym is)

-- a key without a place has no entry
pub nothing_found : (key : StatementCacheKey) (es : List CacheEntry) (table : KeyPlaces) → HasPlaces table es → None ≡ place_at table key → place_from key 0 es ≡ None
nothing_found key es table indexed at = nothing (place_from key 0 es) (at ∙ indexed key)
  where
    nothing : (o : Option (ℕ × CacheEntry)) → None ≡ option_map (λ (p : ℕ × CacheEntry). p.0) o → o ≡ None
    nothing None h = refl
    nothing (Some p) h = absurd (cc)

-- the entry of a query has its key
pub entry_has_key : (q : QueryView) (types : List BindType) (counter : ℕ) (key : StatementCacheKey) (e : CacheEntry) → e ≡ entry_of q types counter → key ≡ key_of q types → entry_key e ≡ key
entry_has_key q types counter key e is has = ap entry_key is ∙ sym has

-- a table that got the place of one key more
module _ (before after : KeyPlaces) (key : StatementCacheKey) (es : List CacheEntry) (e : CacheEntry) (place : ℕ)
    (is : entry_key e ≡ key) (at : place ≡ length es) (none : place_from key 0 es ≡ None) (indexed : HasPlaces before es)
    (adds : (other : StatementCacheKey) → place_at after other ≡ (if same_key key other then Some place else place_at before other)) where
  adds-last : (other : StatementCacheKey) → place_at after other ≡ (if same_key key other then Some (length es) else place_at before other)
  adds-last other = adds other ∙ ap (λ (n : ℕ). if same_key key other then Some n else place_at before other) at

  -- behind the others stands the new entry alone
  at-end : (other : StatementCacheKey) → place_from other 0 es ≡ None → option_map (λ (p : ℕ × CacheEntry). p.0) (place_from other 0 (es ++ e ∷ [])) ≡ (if same_key key other then Some (length es) else None)
  at-end other h = ap (λ (o : Option (ℕ × CacheEntry)). option_map (λ (p : ℕ × CacheEntry). p.0) o) (place_behind other 0 es (e ∷ []) h) ∙ ends (same_key (entry_key e) other) ∙ ap (λ (k : StatementCacheKey). if same_key k other then Some (length es) else None) is
    where
      ends : (b : Bool) → option_map (λ (p : ℕ × CacheEntry). p.0) (if b then Some (0 + length es, e) else None) ≡ (if b then Some (length es) else None)
      ends true = ap (λ (n : ℕ). Some n) (omega arith)
      ends false = refl

  of-same : (other : StatementCacheKey) → same_key key other ≡ true → place_at after other ≡ option_map (λ (p : ℕ × CacheEntry). p.0) (place_from other 0 (es ++ e ∷ []))
  of-same other h =
      adds-last other ∙ ap (λ (b : Bool). if b then Some (length es) else place_at before other) h
      ∙ sym (at-end other (sym (place_beside key other h 0 es) ∙ none) ∙ ap (λ (b : Bool). if b then Some (length es) else None) h)

  of-other : (other : StatementCacheKey) → same_key key other ≡ false → (o : Option (ℕ × CacheEntry)) → place_from other 0 es ≡ o → place_at after other ≡ option_map (λ (p : ℕ × CacheEntry). p.0) (place_from other 0 (es ++ e ∷ []))
  of-other other h None o-is =
      adds-last other ∙ ap (λ (b : Bool). if b then Some (length es) else place_at before other) h ∙ indexed other ∙ ap (λ (o : Option (ℕ × CacheEntry)). option_map (λ (p : ℕ × CacheEntry). p.0) o) o-is
      ∙ sym (at-end other o-is ∙ ap (λ (b : Bool). if b then Some (length es) else None) h)
  of-other other h (Some p) o-is =
      adds-last other ∙ ap (λ (b : Bool). if b then Some (length es) else place_at before other) h ∙ indexed other ∙ ap (λ (o : Option (ℕ × CacheEntry)). option_map (λ (p : ℕ × CacheEntry). p.0) o) (o-is ∙ sym (place_kept other 0 es (e ∷ []) p o-is))

  pub indexed_more : HasPlaces after (es ++ e ∷ [])
  indexed_more other = elim (same_key key other) as (λ b. same_key key other ≡ b → place_at after other ≡ option_map (λ (p : ℕ × CacheEntry). p.0) (place_from other 0 (es ++ e ∷ []))) [
    | true ↦ (λ h. of-same other h)
    | false ↦ (λ h. of-other other h (place_from other 0 es) refl)
  ] refl
