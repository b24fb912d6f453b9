use Rattle.std.proofs.Common.{arith, inl}
use Rattle.shared_pool.specs.SlotMeasures.{slot_measure}
use Rattle.shared_pool.proofs.Steps.{pops, drains}
use Rattle.shared_pool.proofs.seat.Pool.drain.Goals as goal

pub pop_as-requires-clause-rule : goal.pop_as-requires-clause-rule
pop_as-requires-clause-rule g c = let is = c.args.seat.now.spare_is in let alone = c.requires.alone in (
  pops slot_measure g.row.MAX g.row.SEATS _ _ (inl (omega arith)) (omega arith),
  drains slot_measure g.row.MAX g.row.SEATS _ _ (omega arith),
)
