use Rattle.std.proofs.Common.{sym}
use Rattle.conn_server.proofs.Logs.{found_has}
use Rattle.conn_server.proofs.log.call_at.Goals as goal

pub call_in-requires : goal.call_in-requires
call_in-requires c = found_has c.args.binds.now.binds c.args.calls.now c.args.place c.in-Some.found.now (sym c.in-Some.ensures) c.requires
