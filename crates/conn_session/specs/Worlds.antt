-- What a session and its connector show: the pool with its connections, and both together.
use Rattle.std.specs.Prelude.{ℕ, suc, ◌+◌, ◌≡◌, ◌<◌, ◌≤◌, ◌==◌, ⊤, Bool, nat_lt, List, [], ◌∷◌, ◌++◌, length, map, replicate, sum_by, Option, Some, None, if◌then◌else◌}
use Rattle.std.specs.Option.{option_map}
use Rattle.conn_model.specs.Seen.{Seen}
use Rattle.conn_model.specs.declared.item.Dialect.{Dialect}
use Rattle.conn_manager.specs.Views.{View}
use Rattle.conn_pool.specs.Managers.{Managed, managed}
use Rattle.conn_pool.specs.SlotViews.{SlotView}
use Rattle.conn_pool.specs.declared.pooled.PooledConnection.{PooledConnection}
use Rattle.conn_reading.specs.Asking.{Policy}
use Rattle.conn_reading.specs.Seats.{Seat, Context}
use Rattle.conn_reading.specs.declared.blocks.Block.{Block}
use Rattle.conn_script.specs.declared.command.Customizer.{Customizer}
use Rattle.conn_script.specs.declared.query.Declared.{Declared}
use Rattle.conn_server.specs.Connected.{Connected}
use Rattle.conn_session.specs.Responses.{seat_of}
use Rattle.conn_session.specs.declared.session.Session.{Session}

-- How connections are opened, how many slots there are, the slots that aren't handed out, front first, the connections that
-- are, each at the place of its number, the open blocks, innermost first, the queries that commands name, and what `get` asks.
pub record Pool : Type 0 where
  pub dialect : Dialect
  pub url : List ℕ
  pub size : ℕ
  pub slots : List (Option View)
  pub out : List (Option View)
  pub blocks : List Block
  pub queries : List Declared
  pub policy : Policy

-- a pool, and the connector from which its servers come
pub record World : Type 0 where
  pub pool : Pool
  pub connector : Connected

-- what `get` asks, by its parts
abbrev pub policy_with : Customizer → Bool → Policy
policy_with customizer check = record { customizer = customizer; check = check }

-- a pool of so many empty slots
abbrev pub new_pool : Dialect → List ℕ → ℕ → Policy → List Declared → Pool
new_pool dialect url size policy queries = record { dialect = dialect; url = url; size = size; slots = replicate size None; out = []; blocks = []; queries = queries; policy = policy }

-- connections, by what each shows
module _ {C : Type 0} (view : C → View) where
  -- what pooled connections show, where they are
  abbrev pub views_of : List (Option (PooledConnection C)) → List (Option View)
  views_of places = map (option_map (λ (p : PooledConnection C). view p.connection)) places

  -- what the connections show that slots keep
  abbrev pub kept_views : List (SlotView C) → List (Option View)
  kept_views slots = map (λ (s : SlotView C). option_map view s.kept) slots

-- a session over connections with handlers of some type
module _ {C H : Type 0} (view : C → View) where
  -- what a session shows, by its manager's settings
  abbrev pub pool_of : Session C H → Managed → Pool
  pool_of s m = record { dialect = m.dialect; url = m.url; size = s.core.max_size; slots = kept_views view s.core.slots; out = views_of view s.out.items; blocks = s.blocks; queries = s.queries; policy = policy_with s.customizer s.check }

  -- a session and its manager's connector
  abbrev pub world_of : Session C H → Managed → World
  world_of s m = record { pool = pool_of s m; connector = m.connector }

  -- a session by what its manager has
  abbrev pub world_at : Session C H → Connected → Dialect → List ℕ → World
  world_at s connector dialect url = world_of s (managed connector dialect url)

-- a place for each server that was opened, where one was opened since
abbrev pub filled_to : {A : Type 0} → ℕ → List (Option A) → List (Option A)
filled_to opened out = if nat_lt (length out) opened then out ++ None ∷ [] else out

-- ---- as a reader of logs has them

-- the connections, where they are
abbrev pub seats_of : List (Option View) → List (Option Seat)
seats_of vs = map (option_map seat_of) vs

-- the whole of them
abbrev pub context_of : World → Context
context_of w = record { slots = seats_of w.pool.slots; out = seats_of w.pool.out; opened = w.connector.opened; blocks = w.pool.blocks }

-- ---- each server is in one place

-- a measure of the server of a connection, and 0 where there is none
abbrev pub part : (Seen → ℕ) → Option View → ℕ
part f None = 0
part f (Some v) = f v.seen

-- the sum of a measure over all servers, wherever they are
abbrev pub sum_all : (Seen → ℕ) → World → ℕ
sum_all f w = sum_by (part f) w.pool.slots + sum_by (part f) w.pool.out + sum_by f w.connector.returned

-- 1 for a server of this number
abbrev pub of_number : ℕ → Seen → ℕ
of_number n s = if s.number == n then 1 else 0

-- the refusals that a server of this number counted
abbrev pub refusals : ℕ → Seen → ℕ
refusals n s = if s.number == n then s.failures else 0

-- 1 for every server
abbrev pub each_server : Seen → ℕ
each_server s = 1

-- each server that was opened is in one place, once, and no other server is in any
pub record Accounts (w : World) : Type 0 where
  pub once : (n : ℕ) → n < w.connector.opened → sum_all (of_number n) w ≡ 1
  pub none : (n : ℕ) → w.connector.opened ≤ n → sum_all (of_number n) w ≡ 0

-- connections stand at the places of their numbers, of which this is the first
abbrev pub ArePlaced : ℕ → List (Option View) → Type 0
ArePlaced n [] = ⊤
ArePlaced n (None ∷ vs) = ArePlaced (suc n) vs
ArePlaced n (Some v ∷ vs) = (v.seen.number ≡ n) × ArePlaced (suc n) vs

-- what holds of a session at each command: each server is in one place; there is a place for the number of each server that was
-- opened; each slot is in the pool or was given for a connection that is out; and the connector can take all servers back
pub record Invariant (w : World) : Type 0 where
  pub accounts : Accounts w
  pub places : length w.pool.out ≡ w.connector.opened
  pub placed : ArePlaced 0 w.pool.out
  pub slots : length w.pool.slots + sum_by (part each_server) w.pool.out ≡ w.pool.size
  pub room : sum_by (part each_server) w.pool.slots + sum_by (part each_server) w.pool.out ≤ w.connector.room
