use Rattle.std.proofs.Common.{◌∙◌, length, ap, sym, arith}
use Rattle.std.specs.Prelude.{string_bytes}
use Rattle.conn_server.specs.Logged.{Log}
use Rattle.conn_server.proofs.Logs.{length-items}
use Rattle.conn_server.proofs.log.ItemLog.len.Goals as goal

pub returns-clause-len : goal.returns-clause-len
returns-clause-len c =
    let old = c.self.inside in
    let size = sym (length-items (string_bytes old.buffer) old.binds.binds old.calls.items 0 old.records.items) ∙ ap (λ (l : Log). length l.items) c.self.view_is in
    omega (arith, size)
