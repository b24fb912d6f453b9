use Rattle.std.proofs.Common.{◌≡◌, ℕ, List, take, Some}
use Rattle.conn_server.specs.Connected.{writes_by}
use Rattle.conn_session.proofs.transcript.copy_writes.Given as goal

-- the writes so far
abbrev pub invariant-loop-place : goal.invariant-loop-place
invariant-loop-place g l = (writes : List (List ℕ)) → writes_by g.K.S.Server.is_honest l.server (g.K.Connector.held l.connector).returned ≡ Some writes → l.texts ≡ take l.place writes
