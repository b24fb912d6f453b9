use Rattle.conn_pool.proofs.Rooms.{empty_rooms}
use Rattle.conn_pool.proofs.pool_core.PoolCore.new.Goals as goal

pub returns-clause-room : goal.returns-clause-room
returns-clause-room g c =
    empty_rooms (record { slots = c.loop-number.queue.items; max_size = c.args.max_size }) c.loop-number.number c.loop-number.invariant.0 c.loop-number-test.false
