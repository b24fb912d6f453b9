use Rattle.std.proofs.Common.{arith, inr}
use Rattle.crossbeam_queue.specs.Passes.{view}
use Rattle.shared_pool.specs.SlotMeasures.{slot_measure}
use Rattle.shared_pool.proofs.Steps.{pops}
use Rattle.shared_pool.proofs.Holdings.{finds_none, sees}
use Rattle.shared_pool.proofs.seat.Pool.look.Goals as goal

pub pop_as-found-requires-clause-rule : goal.pop_as-found-requires-clause-rule
pop_as-found-requires-clause-rule g c = let is = c.args.seat.now.spare_is in (
  pops slot_measure g.row.MAX g.row.SEATS _ _ (inr (c.requires.empty, omega arith)) (omega arith),
  sees g.row.C.Denot g.row.MAX g.row.SEATS (view c.args.seat.now.pass) _,
)

pub returns-then-is_none-clause-none_possible : goal.returns-then-is_none-clause-none_possible
returns-then-is_none-clause-none_possible g c = let is = c.args.seat.now.spare_is in
    finds_none g.row.C.Denot g.row.MAX g.row.SEATS (view c.args.seat.now.pass) c.pop_as-found.result _ _ (omega arith) c.requires.empty c.pop_as-found.ensures.rule
