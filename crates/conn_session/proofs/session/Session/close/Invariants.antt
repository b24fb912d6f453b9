use Rattle.std.proofs.Common.{length, vec_len, []}
use Rattle.conn_server.specs.Connected.{Connected}
use Rattle.conn_session.specs.Transfers.{GivesBackSome}
use Rattle.conn_session.specs.Worlds.{kept_views, views_of}
use Rattle.conn_session.proofs.session.Session.close.Given as goal

abbrev pub invariant-loop-place : goal.invariant-loop-place
invariant-loop-place g l =
    let views = views_of g.C.SimpleConnection.view in
    GivesBackSome (views l.fn.self.out.items) (g.K.Connector.held l.fn.connector) (views l.out.items) (g.K.Connector.held l.connector)

abbrev pub decreases-loop-place : goal.decreases-loop-place
decreases-loop-place g l = vec_len l.out

abbrev pub invariant-loop-slot : goal.invariant-loop-slot
invariant-loop-slot g l =
    let views = views_of g.C.SimpleConnection.view in
    let kept = kept_views g.C.SimpleConnection.view in
    (mid : Connected) × GivesBackSome (views l.fn.self.out.items) (g.K.Connector.held l.fn.connector) [] mid
    × GivesBackSome (kept l.fn.self.core.slots) mid (kept l.core.slots) (g.K.Connector.held l.connector)

abbrev pub decreases-loop-slot : goal.decreases-loop-slot
decreases-loop-slot g l = length l.core.slots
