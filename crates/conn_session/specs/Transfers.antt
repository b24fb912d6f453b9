-- How servers and slots move between the pool, the connections that are out, and the connector.
use Rattle.std.specs.Prelude.{ℕ, ◌+◌, ◌≡◌, ◌≤◌, List, [], ◌∷◌, ◌++◌, slice_set, sum_by, Option, Some, None}
use Rattle.std.specs.List.{AllByRecursion}
use Rattle.conn_model.specs.Seen.{Seen}
use Rattle.conn_model.specs.declared.item.Dialect.{Dialect}
use Rattle.conn_model.specs.declared.plan.PlanLine.{PlanLine}
use Rattle.conn_manager.specs.Views.{View}
use Rattle.conn_report.specs.declared.entry.Reply.{Reply}
use Rattle.conn_script.specs.declared.request.Verb.{Verb}
use Rattle.conn_reading.specs.Answered.{ServerLogs}
use Rattle.conn_reading.specs.Blocks.{blocks_after}
use Rattle.conn_server.specs.Connected.{Connected, takes_back}
use Rattle.conn_session.specs.Known.{Has, OfServer}
use Rattle.conn_session.specs.Worlds.{Pool, World, filled_to, part, each_server}

-- a slot is at the back
abbrev pub gives_slot : Option View → Pool → Pool
gives_slot slot p = record p { slots = p.slots ++ slot ∷ [] }

-- a slot is in front
abbrev pub in_front : Option View → World → World
in_front slot w = record w { pool = record w.pool { slots = slot ∷ w.pool.slots } }

-- the place of a number has this
abbrev pub puts_out : ℕ → Option View → Pool → Pool
puts_out n view p = record p { out = slice_set p.out n view }

-- a place for the next number has this
abbrev pub adds_out : Option View → Pool → Pool
adds_out view p = record p { out = p.out ++ view ∷ [] }

-- a place for each server that was opened, where one was opened since
abbrev pub fills_places : ℕ → Pool → Pool
fills_places opened p = record p { out = filled_to opened p.out }

-- the reply to a command of connection n told the blocks
abbrev pub tells_blocks : ℕ → Verb → Reply → World → World
tells_blocks n verb reply w = record w { pool = record w.pool { blocks = blocks_after n verb reply w.pool.blocks } }

-- the server of a connection is with the connector, where there is one
abbrev pub gives_back : Option View → Connected → Connected
gives_back None k = k
gives_back (Some v) k = takes_back v.seen k

-- from these connections to those, servers were given back, and nothing else changed
pub record GivesBackSome (vs : List (Option View)) (old : Connected) (left : List (Option View)) (new : Connected) : Type 0 where
  pub opened : new.opened ≡ old.opened
  pub counts : new.failures ≡ old.failures
  pub plan : new.armed ≡ old.armed
  pub targets : new.targets ≡ old.targets
  pub room : old.room + sum_by (part each_server) left ≤ new.room + sum_by (part each_server) vs
  pub totals : (f : Seen → ℕ) → sum_by (part f) left + sum_by f new.returned ≡ sum_by (part f) vs + sum_by f old.returned
  pub known : (d : Dialect) (plan : List PlanLine) (logs : ServerLogs) → AllByRecursion (OfServer (Has d plan logs)) vs → AllByRecursion (Has d plan logs) old.returned
      → AllByRecursion (OfServer (Has d plan logs)) left × AllByRecursion (Has d plan logs) new.returned
