use Rattle.std.proofs.Common.{◌≡◌, None, rules}
use Rattle.conn_manager.specs.Manages.{done}
use Rattle.conn_manager.specs.Statuses.{valid}
use Rattle.conn_manager.proofs.Steps.{begins_test}
use Rattle.conn_manager.proofs.calls.begin_test.Goals as goal

pub returns-clause-tells : goal.returns-clause-tells
returns-clause-tells g c =
    let C = g.C.SimpleConnection in
    let old = C.view c.args.conn.now in
    let mid = C.view c.begin-reply.new.conn in
    let new = C.view c.settle.new.conn in
    let outside : old.status ≡ valid None = search rules in
    let outcome = done c.with_test_mark-outcome.result.reply c.with_test_mark-outcome.result.status in
    begins_test C.is_honest c.begin-reply.result _ outcome old mid new c.settle.result outside c.begin-reply.ensures.tells c.with_test_mark-outcome.ensures c.status.ensures c.settle.ensures.reply c.settle.ensures.status
