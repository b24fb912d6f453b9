use Rattle.std.proofs.Common.{◌≡◌, ◌+◌, ◌*◌, ◌≤◌}
use Rattle.shared_pool.specs.SlotRules.{HoldsNone}
use Rattle.shared_pool.specs.PoolSeats.{spare_of, tally_of, IsSeatOf}
use Rattle.thread_tests.proofs.share_tests.work.Given as goal

abbrev pub invariant-loop-turn : goal.invariant-loop-turn
invariant-loop-turn g l =
    IsSeatOf l.pool l.seat × HoldsNone (tally_of l.seat) × (spare_of l.seat ≡ spare_of l.initial.seat) × (g.M.ManageConnection.room l.initial.manager ≤ g.M.ManageConnection.room l.manager + 2 * l._turn)
    × (g.M.ManageConnection.lent l.manager ≡ g.M.ManageConnection.lent l.initial.manager)
