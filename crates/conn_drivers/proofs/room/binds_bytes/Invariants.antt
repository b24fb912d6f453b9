use Rattle.std.proofs.Common.{◌≡◌, take}
use Rattle.conn_model.specs.Statements.{binds_bytes}
use Rattle.conn_drivers.proofs.room.binds_bytes.Given as goal

-- the binds so far were counted
abbrev pub invariant-loop-bind : goal.invariant-loop-bind
invariant-loop-bind l = l.bytes ≡ binds_bytes (take l.bind-index l.binds)
