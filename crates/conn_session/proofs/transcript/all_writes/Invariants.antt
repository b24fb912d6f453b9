use Rattle.std.proofs.Common.{◌≡◌}
use Rattle.conn_session.specs.Accounts.{servers_of}
use Rattle.conn_session.proofs.transcript.all_writes.Given as goal

abbrev pub invariant-loop-server : goal.invariant-loop-server
invariant-loop-server g l = l.servers ≡ servers_of g.K.S.Server.is_honest l.server (g.K.Connector.held l.connector).returned
