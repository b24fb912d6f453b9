use Rattle.std.proofs.Common.{ap, ◌∙◌}
use Rattle.crossbeam_queue.specs.Passes.{view}
use Rattle.shared_pool.specs.SlotMeasures.{after_give}
use Rattle.shared_pool.proofs.Fills.{fills}
use Rattle.shared_pool.proofs.pool.fill.Goals as goal

pub loop-number-preserved : goal.loop-number-preserved
loop-number-preserved g c = let i = c.loop-number.invariant in (
  c.push.ensures.queue,
  fills g.row.C.Denot g.row.MAX g.row.SEATS c.loop-number.number (view c.loop-number.pass) (view c.push.new.pass) c.loop-number-test.true i.1
      (c.push.ensures.tally ∙ ap (after_give (view c.loop-number.pass)) c.empty.ensures),
  i.2,
)
