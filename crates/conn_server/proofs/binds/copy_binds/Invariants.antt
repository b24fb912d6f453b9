use Rattle.std.proofs.Common.{◌≡◌, take}
use Rattle.conn_server.specs.BindLists.{bind_list}
use Rattle.conn_server.proofs.binds.copy_binds.Given as goal

-- the binds so far are copied
abbrev pub invariant-loop-record : goal.invariant-loop-record
invariant-loop-record l = l.copy ≡ bind_list l.buffer (take l.record-index l.of)
