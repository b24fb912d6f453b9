use Rattle.shared_pool.specs.SlotMeasures.{slot_measure}
use Rattle.shared_pool.proofs.Steps.{pushes, rooms}
use Rattle.shared_pool.proofs.pool.push.Goals as goal

pub push_as-requires-clause-rule : goal.push_as-requires-clause-rule
push_as-requires-clause-rule g c = (pushes slot_measure g.row.MAX g.row.SEATS _ _ _ _ c.requires.held c.requires.live, rooms slot_measure g.row.MAX g.row.SEATS _ _)
