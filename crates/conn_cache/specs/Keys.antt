-- Keys of the cache, and their places.
use Rattle.std.specs.Prelude.{ℕ, Bool, false, ◌&&◌, nat_eq, List, Option, Some, None}
use Rattle.std.specs.Cmp.Lexicographic.{pointwise}
use Rattle.std.specs.Hash as fed
use Rattle.std.specs.Hash.{HashWrites}
use Rattle.std.specs.Map.{lookup}
use Rattle.conn_model.specs.Classes.{same_text}
use Rattle.conn_model.specs.contracts.value.BindTypePartialEq.TheImpl as type_eq
use Rattle.conn_model.specs.declared.value.BindType.{BindType}
use Rattle.conn_cache.specs.declared.key.StatementCacheKey.{StatementCacheKey}
use Rattle.conn_cache.specs.declared.key.StatementCacheKey.TheVariants.{Id, Sql}
use Rattle.conn_cache.specs.QueryViews.{QueryView}

-- the types are the same, in the same order
unfoldable pub same_types : List BindType → List BindType → Bool
same_types s t = pointwise (type_eq.ghosts).eq s t

-- the number where there is one, else the text with the types
abbrev pub key_by : Option ℕ → List ℕ → List BindType → StatementCacheKey
key_by None sql types = Sql sql types
key_by (Some id) sql types = Id id

-- the key of a query, with these types of its binds
abbrev pub key_of : QueryView → List BindType → StatementCacheKey
key_of q types = key_by q.id q.sql types

-- the two keys are one
abbrev pub same_key : StatementCacheKey → StatementCacheKey → Bool
same_key (Id a) (Id b) = nat_eq a b
same_key (Id a) (Sql t us) = false
same_key (Sql s ts) (Id b) = false
same_key (Sql s ts) (Sql t us) = same_text s t && same_types ts us

-- the text that the key has, else this one
abbrev pub key_text : StatementCacheKey → List ℕ → List ℕ
key_text (Id id) sql = sql
key_text (Sql text types) sql = text

-- what is hashed of a key: its number, or its text
abbrev pub key_writes : StatementCacheKey → HashWrites
key_writes (Id id) = fed.u64 id
key_writes (Sql text types) = fed.str text

-- what a table of keys is for its callers: keys with their places, in any order, and the room for further keys
pub record KeyPlaces : Type 0 where
  pub places : List (StatementCacheKey × ℕ)
  pub room : ℕ

-- the place of a key
abbrev pub place_at : KeyPlaces → StatementCacheKey → Option ℕ
place_at table key = lookup (same_key key) table.places
