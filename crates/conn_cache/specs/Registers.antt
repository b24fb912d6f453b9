-- What a cache knows of its statements, and what a look-up in it comes to.
use Rattle.std.specs.Prelude.{◌≡◌, ℕ, ◌+◌, ◌-◌, ◌^◌, ◌<◌, nat_eq, Bool, true, false, if◌then◌else◌, ◌&&◌, List, [], ◌∷◌, ◌++◌, Option, Some, None, ⊤, option_map}
use Rattle.conn_model.specs.Caches.{Register, same_size}
use Rattle.conn_model.specs.Classes.{same_text}
use Rattle.conn_model.specs.declared.value.BindType.{BindType}
use Rattle.conn_cache.specs.declared.entry.Due.{Due}
use Rattle.conn_cache.specs.declared.entry.Due.TheVariants.{Plain, Found, Clash, Exhausted, New}
use Rattle.conn_model.specs.declared.cache.CacheEntry.{CacheEntry}
use Rattle.conn_cache.specs.declared.key.StatementCacheKey.{StatementCacheKey}
use Rattle.conn_model.specs.declared.cache.CacheSize.{CacheSize}
use Rattle.conn_model.specs.declared.cache.CacheSize.TheVariants.{Unbounded, Disabled}
use Rattle.conn_cache.specs.Keys.{KeyPlaces, key_by, key_of, place_at, same_key, same_types}
use Rattle.conn_cache.specs.QueryViews.{QueryView}

-- the key of an entry
abbrev pub entry_key : CacheEntry → StatementCacheKey
entry_key e = key_by e.id e.sql e.types

-- the entry of a query, with these types and this number
abbrev pub entry_of : QueryView → List BindType → ℕ → CacheEntry
entry_of q types counter = record { id = q.id; sql = q.sql; types = types; counter = counter }

-- the entry has the query's text, and these types
abbrev pub is_entry_of : QueryView → List BindType → CacheEntry → Bool
is_entry_of q types e = same_text e.sql q.sql && same_types e.types types

-- the first entry of the key with its place, where the first of all has this place
abbrev pub place_from : StatementCacheKey → ℕ → List CacheEntry → Option (ℕ × CacheEntry)
place_from key place [] = None
place_from key place (e ∷ es) = if same_key (entry_key e) key then Some (place, e) else place_from key (place + 1) es

-- the table has the place of each key
abbrev pub HasPlaces : KeyPlaces → List CacheEntry → Type 0
HasPlaces table entries = (key : StatementCacheKey) → place_at table key ≡ option_map (λ p. p.0) (place_from key 0 entries)

-- a query is looked up where it is safe to keep and the cache keeps any
abbrev pub is_looked_up : CacheSize → Bool → Bool
is_looked_up Unbounded safe = safe
is_looked_up Disabled safe = false

-- a new entry takes the next number, and there is none after the greatest
abbrev pub due_new : ℕ → Due
due_new counter = if nat_eq counter (2 ^ 64 - 1) then Exhausted else New

-- what is due where this was found of the query's key
abbrev pub due_at : QueryView → List BindType → ℕ → Option (ℕ × CacheEntry) → Due
due_at q types counter None = due_new counter
due_at q types counter (Some p) = if is_entry_of q types p.1 then Found p.0 else Clash

-- what is due for a query, with these types of its binds
abbrev pub due : QueryView → List BindType → Register → Due
due q types r = if is_looked_up r.size q.is_safe then due_at q types r.counter (place_from (key_of q types) 0 r.entries) else Plain

-- a place that is found is one of so many, and a new entry has a number
abbrev pub IsWithin : ℕ → ℕ → Due → Type 0
IsWithin places counter Plain = ⊤
IsWithin places counter (Found place) = place < places
IsWithin places counter Clash = ⊤
IsWithin places counter Exhausted = ⊤
IsWithin places counter New = counter < 2 ^ 64 - 1

-- the register after a new entry was due: the next number is given, and the entry is there where its prepare was accepted
abbrev pub register_after : QueryView → List BindType → Bool → Register → Register
register_after q types true r = record r { counter = r.counter + 1; entries = r.entries ++ entry_of q types (r.counter + 1) ∷ [] }
register_after q types false r = record r { counter = r.counter + 1 }

-- the register after this size was set: another size empties it, and the counter stays
abbrev pub register_sized : CacheSize → Register → Register
register_sized size r = if same_size size r.size then r else record { size = size; counter = r.counter; entries = [] }
