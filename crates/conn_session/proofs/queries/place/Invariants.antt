use Rattle.std.proofs.Common.{◌≡◌, ◌+◌, ◌-◌, ℕ, length}
use Rattle.conn_reading.specs.Seats.{at_number}
use Rattle.conn_session.proofs.queries.place.Given as goal

-- the same queries are found, with places more
abbrev pub invariant-loop-places : goal.invariant-loop-places
invariant-loop-places l = (n : ℕ) → at_number n l.places.items ≡ at_number n l.fn.places.items

abbrev pub decreases-loop-places : goal.decreases-loop-places
decreases-loop-places l = l.number + 1 - length l.places.items
