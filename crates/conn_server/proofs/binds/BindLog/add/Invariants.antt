use Rattle.std.proofs.Common.{◌≡◌, ◌≤◌, ◌+◌, ◌++◌, take}
use Rattle.conn_model.specs.Statements.{binds_bytes}
use Rattle.conn_server.proofs.binds.BindLog.add.Given as goal

-- the binds so far were added
abbrev pub invariant-loop-bind : goal.invariant-loop-bind
invariant-loop-bind l = record {
  binds : l.self.binds ≡ l.fn.self.binds ++ take l.bind-index l.binds;
  bind_room : l.fn.self.bind_room ≤ l.self.bind_room + l.bind-index;
  value_room : l.fn.self.value_room ≤ l.self.value_room + binds_bytes (take l.bind-index l.binds);
}
