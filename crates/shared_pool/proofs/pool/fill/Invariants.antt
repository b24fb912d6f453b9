use Rattle.std.proofs.Common.{◌≡◌}
use Rattle.crossbeam_queue.specs.Passes.{view, IsPassOf, ruled_capacity}
use Rattle.shared_pool.proofs.Fills.{filling}
use Rattle.shared_pool.proofs.pool.fill.Given as goal

abbrev pub invariant-loop-number : goal.invariant-loop-number
invariant-loop-number g l = IsPassOf l.queue l.pass × (view l.pass ≡ filling g.row.MAX g.row.SEATS l.number) × (ruled_capacity l.queue ≡ g.row.MAX)
