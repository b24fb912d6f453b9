-- The statements of a connection's cache are open on its server.
use Rattle.std.specs.Prelude.{◌≡◌, ℕ, ◌≤◌, List, [], ◌∷◌, Some}
use Rattle.std.specs.Coded.{×_prop, Unit-prop}
use Rattle.std.proofs.Props.{props}
use Rattle.conn_model.specs.Seen.{Seen, Opened}
use Rattle.conn_model.specs.Statements.{find_open}
use Rattle.conn_cache.specs.Preparers.{IsApart}
use Rattle.conn_model.specs.Caches.{Cache}
use Rattle.conn_cache.specs.Soundness.{AreApart, AreOwn, IsSound}
use Rattle.conn_model.specs.declared.cache.CacheEntry.{CacheEntry}
use Rattle.conn_drivers.specs.declared.statement.Statement.{Statement}

-- there is so much room
pub record HasLogRoom (items bytes : ℕ) (s : Seen) : Type 0 where
  pub has_items : items ≤ s.item_room
  pub has_bytes : bytes ≤ s.byte_room

-- the statement is open with this text, and has its columns
abbrev pub stands_in : List Opened → Statement → List ℕ → Type 0
stands_in os t sql = find_open t.number os ≡ Some (record { statement = t.number; text = sql; columns = t.columns })

-- each kept statement is open with its entry's text, and none is there twice
abbrev pub AreHeld : List Opened → Cache Statement → Type 0
AreHeld os cache = IsSound (stands_in os) cache

stands_prop : (os : List Opened) (t : Statement) (sql : List ℕ) → IsProp (stands_in os t sql)
stands_prop os t sql = hlevel props

own_prop : (os : List Opened) (es : List CacheEntry) (ts : List Statement) → IsProp (AreOwn (stands_in os) es ts)
own_prop os [] [] = Unit-prop
own_prop os [] (t ∷ ts) = λ x y. absurd x
own_prop os (e ∷ es) [] = λ x y. absurd x
own_prop os (e ∷ es) (t ∷ ts) = ×_prop (stands_prop os t e.sql) (own_prop os es ts)

is_apart_prop : (t : Statement) (ts : List Statement) → IsProp (IsApart t ts)
is_apart_prop t [] = Unit-prop
is_apart_prop t (u ∷ us) = ×_prop (hlevel props) (is_apart_prop t us)

are_apart_prop : (ts : List Statement) → IsProp (AreApart ts)
are_apart_prop [] = Unit-prop
are_apart_prop (t ∷ ts) = ×_prop (is_apart_prop t ts) (are_apart_prop ts)

-- there is one proof of it at most
pub held_prop : (os : List Opened) (cache : Cache Statement) → IsProp (AreHeld os cache)
held_prop os cache = hlevel (own_prop os cache.register.entries cache.statements, are_apart_prop cache.statements)
