use Rattle.std.proofs.Common.{arith}
use Rattle.shared_pool.specs.SlotMeasures.{slot_measure}
use Rattle.shared_pool.proofs.Steps.{settles}
use Rattle.shared_pool.proofs.seat.Pool.settle_up.Goals as goal

pub learn_as-requires-clause-rule : goal.learn_as-requires-clause-rule
learn_as-requires-clause-rule g c = let is = c.args.seat.now.spare_is in settles slot_measure g.row.MAX g.row.SEATS _ _ (omega arith)
