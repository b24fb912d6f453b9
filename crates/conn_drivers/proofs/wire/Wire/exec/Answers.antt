use Rattle.std.proofs.Common.{ap, ◌∙◌, Option}
use Rattle.conn_model.specs.declared.item.Refusal.{Refusal}
use Rattle.conn_manager.specs.Statuses.{retold, reply_of}
use Rattle.conn_drivers.proofs.Heard.{heard_text}
use Rattle.conn_drivers.proofs.wire.Wire.exec.Goals as goal

pub returns-clause-hears : goal.returns-clause-hears
returns-clause-hears g c =
    let S = g.S.Server in
    let mid = S.seen c.exec.new.self in
    let s = c.args.self.now.status in
    let refusal = c.err-refusal.ensures.value in
    heard_text S.is_honest (S.seen c.args.self.now.server) mid (S.seen c.follow.new.self.server) s c.follow.new.self.status c.reply_of.result c.follow.ensures.same (λ e. g.met.S.Server.honesty e c.follow.new.self.server)
    c.args.query.now c.exec.result c.exec.ensures.sends (c.reply_of.ensures ∙ ap reply_of refusal) (c.follow.ensures.status ∙ ap (λ (r : Option Refusal). retold mid.dialect r mid.told s) refusal)
