-- What a cache of statements holds.
use Rattle.std.specs.Prelude.{ℕ, Bool, true, false, List, []}
use Rattle.conn_model.specs.declared.cache.CacheEntry.{CacheEntry}
use Rattle.conn_model.specs.declared.cache.CacheSize.{CacheSize}
use Rattle.conn_model.specs.declared.cache.CacheSize.TheVariants.{Unbounded, Disabled}

-- the two sizes are one
abbrev pub same_size : CacheSize → CacheSize → Bool
same_size Unbounded Unbounded = true
same_size Unbounded Disabled = false
same_size Disabled Unbounded = false
same_size Disabled Disabled = true

-- a cache without its statements: its size, the numbers that it gave, and an entry for each statement
pub record Register : Type 0 where
  pub size : CacheSize
  pub counter : ℕ
  pub entries : List CacheEntry

-- a cache, with the statement of each entry at the entry's place
pub record Cache (T : Type 0) : Type 0 where
  pub register : Register
  pub statements : List T

-- the cache as queries know it: each statement by how many columns its rows have
abbrev pub Known : Type 0
Known = Cache ℕ

-- a new connection's cache
abbrev pub nothing_known : Known
nothing_known = record { register = record { size = Unbounded; counter = 0; entries = [] }; statements = [] }
