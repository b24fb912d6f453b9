-- What clauses see of a pool that threads share, and of its seats.
use Rattle.std.specs.Prelude.{ℕ, List}
use Rattle.crossbeam_queue.specs.Passes.{view, IsPassOf}
use Rattle.conn_manager.specs.declared.connection.SimpleConnection as simple
use Rattle.conn_manager.specs.declared.instrumentation.Instrumentation as instrumentation
use Rattle.conn_pool.specs.SlotViews.{SlotView}
use Rattle.shared_pool.specs.SlotMeasures.{RuleAt}
use Rattle.shared_pool.specs.declared.tally.Tally.{Tally}
use Rattle.shared_pool.specs.declared.seat.Pool.{Pool}
use Rattle.shared_pool.specs.declared.seat.Seat.{Seat}

module _ {C : Type 0} {MAX SEATS : ℕ} {H : Type 0} {s : simple.Ghosts C} {i : instrumentation.Ghosts H} where
  -- the seat is one of this pool
  abbrev pub IsSeatOf : Pool C MAX SEATS H → Seat C MAX SEATS H s i → Type 0
  IsSeatOf pool seat = IsPassOf pool.queue seat.pass

  -- what a seat has and did
  abbrev pub tally_of : Seat C MAX SEATS H s i → Tally
  tally_of seat = view seat.pass

  -- how many seats may still be split from a seat
  abbrev pub spare_of : Seat C MAX SEATS H s i → ℕ
  spare_of seat = seat.spare

  -- how often a seat that held no slot found none
  abbrev pub looks_of : Seat C MAX SEATS H s i → ℕ
  looks_of seat = seat.empty_looks

  -- at one moment the rule held, and this seat was one of the pool's
  abbrev pub IsRuled : Seat C MAX SEATS H s i → Type 0
  IsRuled seat = (items : List (SlotView C)) × RuleAt MAX SEATS (tally_of seat) items
