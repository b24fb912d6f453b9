use Rattle.std.proofs.Common.{◌≡◌, ◌≤◌, take}
use Rattle.std.specs.List.{sum_by}
use Rattle.conn_pool.specs.SlotViews.{idle_of}
use Rattle.conn_pool.proofs.pool_core.PoolCore.idle_connections.Given as goal

abbrev pub invariant-loop-place : goal.invariant-loop-place
invariant-loop-place g l = (l.idle ≡ sum_by idle_of (take l.place l.self.slots)) × (l.idle ≤ l.place)
