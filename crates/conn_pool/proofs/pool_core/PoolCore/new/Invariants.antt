use Rattle.std.proofs.Common.{◌≡◌, ◌≤◌}
use Rattle.conn_pool.specs.SlotViews.{empty_slots}
use Rattle.conn_pool.proofs.pool_core.PoolCore.new.Given as goal

abbrev pub invariant-loop-number : goal.invariant-loop-number
invariant-loop-number g l = (l.queue.items ≡ empty_slots l.number) × (l.queue.len ≡ l.number) × (l.max_size ≤ l.queue.cap)
