use Rattle.std.proofs.Common.{◌≡◌, ◌-◌, ◌≤◌}
use Rattle.crossbeam_queue.specs.Passes.{view, IsPassOf}
use Rattle.shared_pool.specs.SharedCheckouts.{more_looks}
use Rattle.shared_pool.proofs.seat.Pool.get.Given as goal

abbrev pub invariant-loop-look : goal.invariant-loop-look
invariant-loop-look g l =
    IsPassOf l.self.queue l.seat.pass × (l.seat.spare ≡ l.initial.seat.spare) × (view l.seat.pass ≡ view l.initial.seat.pass)
    × (l.seat.empty_looks ≡ more_looks l.initial.seat.empty_looks (l.look - 1)) × (l.manager ≡ l.initial.manager) × (1 ≤ l.look)
