use Rattle.std.proofs.Common.{◌≡◌, length}
use Rattle.crossbeam_queue.specs.Passes.{view, IsPassOf}
use Rattle.shared_pool.specs.SharedCheckouts.{Empties}
use Rattle.shared_pool.proofs.seat.Pool.close_idle.Given as goal

abbrev pub invariant-loop-taken : goal.invariant-loop-taken
invariant-loop-taken g l =
    IsPassOf l.self.queue l.seat.pass × (length (view l.seat.pass).held ≡ l._taken) × ((view l.seat.pass).given ≡ (view l.initial.seat.pass).given)
    × (l.seat.spare ≡ l.initial.seat.spare) × (l.seat.empty_looks ≡ l.initial.seat.empty_looks)
    × Empties g.M.ManageConnection.closes g.C.SimpleConnection.view g.M.ManageConnection.room l._taken (view l.initial.seat.pass) (view l.seat.pass) l.initial.manager l.manager
    × (g.M.ManageConnection.refusals l.manager ≡ g.M.ManageConnection.refusals l.initial.manager)
    × (g.M.ManageConnection.lent l.manager ≡ g.M.ManageConnection.lent l.initial.manager)
