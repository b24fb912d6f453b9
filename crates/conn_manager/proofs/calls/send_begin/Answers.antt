use Rattle.std.proofs.Common.{refl}
use Rattle.conn_model.specs.Process.{Stop}
use Rattle.conn_manager.specs.Manages.{begun, done}
use Rattle.conn_manager.proofs.Steps.{text_first, settles}
use Rattle.conn_manager.proofs.calls.send_begin.Goals as goal

pub returns-clause-tells : goal.returns-clause-tells
returns-clause-tells g c =
    let C = g.C.SimpleConnection in
    let text = c.args.text.now in
    let reply = c.send_own-reply.result in
    let mid = C.view c.send_own-reply.new.conn in
    let new = C.view c.settle.new.conn in
    let made = done c.begun-outcome.result.reply c.begun-outcome.result.status in
    text_first C.is_honest text text (λ d r s. Stop (begun r s)) reply (C.view c.args.conn.now) mid new c.settle.result refl c.send_own-reply.ensures.tells
    (settles C.is_honest begun reply _ made mid new c.settle.result c.begun-outcome.ensures c.status.ensures c.settle.ensures.reply c.settle.ensures.status)
