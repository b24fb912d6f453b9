use Rattle.shared_pool.specs.SlotMeasures.{slot_measure}
use Rattle.shared_pool.proofs.Steps.{begins}
use Rattle.shared_pool.proofs.seat.Pool.new.Goals as goal

pub ruled-requires-clause-rule : goal.ruled-requires-clause-rule
ruled-requires-clause-rule g c = begins slot_measure g.row.MAX g.row.SEATS
