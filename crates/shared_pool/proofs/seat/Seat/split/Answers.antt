use Rattle.std.proofs.Common.{arith, ◌+◌, ◌<◌}
use Rattle.crossbeam_queue.specs.Passes.{view}
use Rattle.shared_pool.specs.SlotMeasures.{slot_measure}
use Rattle.shared_pool.proofs.Steps.{forks}
use Rattle.shared_pool.proofs.seat.Seat.split.Goals as goal

pub cut-pass-requires-clause-rule : goal.cut-pass-requires-clause-rule
cut-pass-requires-clause-rule g c =
    let is = c.args.self.now.spare_is in let less = c.requires.spare in
    let fits : c.args.spare + 1 < (view c.args.self.now.pass).share = omega arith in
    forks slot_measure g.row.MAX g.row.SEATS _ _ _ c.requires.few (omega arith) fits
