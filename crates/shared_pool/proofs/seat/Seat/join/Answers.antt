use Rattle.std.proofs.Common.{arith}
use Rattle.shared_pool.specs.SlotMeasures.{slot_measure}
use Rattle.shared_pool.proofs.Steps.{merges, counts}
use Rattle.shared_pool.proofs.seat.Seat.join.Goals as goal

pub absorb-requires-clause-rule : goal.absorb-requires-clause-rule
absorb-requires-clause-rule g c = merges slot_measure g.row.MAX g.row.SEATS _ _ _ _ c.requires.empty (let h = c.args.other.spare_is in omega arith)

pub learn_as-requires-clause-rule : goal.learn_as-requires-clause-rule
learn_as-requires-clause-rule g c = counts slot_measure g.row.MAX g.row.SEATS _ _
