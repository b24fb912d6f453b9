use Rattle.std.proofs.Common.{◌∙◌}
use Rattle.conn_model.specs.Events.{RollbackTransaction}
use Rattle.conn_model.specs.Process.{Stop}
use Rattle.conn_manager.specs.Manages.{ask_text, done, rolled_back, rollback_text}
use Rattle.conn_manager.proofs.Steps.{event_first, text_first, settles}
use Rattle.conn_manager.proofs.calls.send_rollback.Goals as goal

pub returns-clause-tells : goal.returns-clause-tells
returns-clause-tells g c =
    let C = g.C.SimpleConnection in
    let t = c.args.t in
    let words = rollback_text t.transaction_depth in
    let reply = c.send_own-reply.result in
    let told = C.view c.event.new.self in
    let mid = C.view c.send_own-reply.new.conn in
    let new = C.view c.settle.new.conn in
    let made = done c.rolled_back-outcome.result.reply c.rolled_back-outcome.result.status in
    event_first C.is_honest (RollbackTransaction t.transaction_depth) (λ d s. ask_text d words s (λ r s1. Stop (rolled_back t r s1))) (C.view c.args.conn.now) told new c.settle.result c.event.ensures
    (text_first C.is_honest c.as_str.result.now words (λ d r s. Stop (rolled_back t r s)) reply told mid new c.settle.result (c.as_str.ensures.value ∙ c.rollback_text.ensures.text) c.send_own-reply.ensures.tells
    (settles C.is_honest (rolled_back t) reply _ made mid new c.settle.result c.rolled_back-outcome.ensures c.status.ensures c.settle.ensures.reply c.settle.ensures.status))
