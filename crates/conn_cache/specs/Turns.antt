-- What calls do to a register, one after another.
use Rattle.std.specs.Prelude.{◌≡◌, ◌⊎◌, ℕ, ◌+◌, ◌<◌, Bool, if◌then◌else◌, ◌&&◌, List, [], ◌∷◌, ◌++◌, ⊤}
use Rattle.conn_model.specs.Classes.{same_text}
use Rattle.conn_model.specs.declared.value.BindType.{BindType}
use Rattle.conn_cache.specs.declared.entry.Due.{Due}
use Rattle.conn_cache.specs.declared.entry.Due.TheVariants.{Found, Clash, New}
use Rattle.conn_model.specs.declared.cache.CacheSize.{CacheSize}
use Rattle.conn_model.specs.declared.cache.CacheSize.TheVariants.{Unbounded}
use Rattle.conn_cache.specs.Keys.{same_types}
use Rattle.conn_cache.specs.QueryViews.{QueryView}
use Rattle.conn_model.specs.Caches.{Register}
use Rattle.conn_cache.specs.Registers.{due, register_after, register_sized}

-- a look-up of a query with types of its binds, whose prepare is accepted or not where a new entry is due; or a size
pub data Turn : Type 0 where
  LookUp : QueryView → List BindType → Bool → Turn
  Size : CacheSize → Turn

-- the register after a look-up, by what is due
abbrev pub register_due : QueryView → List BindType → Bool → Register → Due → Register
register_due q types accepted r New = register_after q types accepted r
register_due q types accepted r _ = r

-- the register after a turn
abbrev pub register_by : Turn → Register → Register
register_by (LookUp q types accepted) r = register_due q types accepted r (due q types r)
register_by (Size size) r = register_sized size r

-- a call that looks a query up does nothing to the register, or takes a turn
abbrev pub TakesTurn : QueryView → List BindType → Register → Register → Type 0
TakesTurn q types r r' = (r' ≡ r) ⊎ ((accepted : Bool) × (r' ≡ register_by (LookUp q types accepted) r))

-- the register after turns, one after another
abbrev pub register_through : List Turn → Register → Register
register_through [] r = r
register_through (t ∷ ts) r = register_through ts (register_by t r)

-- the number that is given where this is due
abbrev pub number_due : ℕ → Due → List ℕ
number_due counter New = (counter + 1) ∷ []
number_due counter _ = []

-- the number that a turn gives, where it gives one
abbrev pub number_by : Turn → Register → List ℕ
number_by (LookUp q types accepted) r = number_due r.counter (due q types r)
number_by (Size size) r = []

-- the numbers that turns give, in their order
abbrev pub numbers_through : List Turn → Register → List ℕ
numbers_through [] r = []
numbers_through (t ∷ ts) r = number_by t r ++ numbers_through ts (register_by t r)

-- the first is greater than this, and each other than the one before it
abbrev pub IsRising : ℕ → List ℕ → Type 0
IsRising least [] = ⊤
IsRising least (n ∷ ns) = (least < n) × IsRising n ns

-- no turn sets another size than Unbounded
abbrev pub StaysUnbounded : List Turn → Type 0
StaysUnbounded [] = ⊤
StaysUnbounded (LookUp q types accepted ∷ ts) = StaysUnbounded ts
StaysUnbounded (Size size ∷ ts) = (size ≡ Unbounded) × StaysUnbounded ts

-- what is due for a query whose key has the entry of another at this place
abbrev pub due_beside : ℕ → QueryView → List BindType → QueryView → List BindType → Due
due_beside place q types other others = if same_text q.sql other.sql && same_types types others then Found place else Clash
