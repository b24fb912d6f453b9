use Rattle.std.proofs.Common.{[], ap, ◌∙◌, Option}
use Rattle.conn_model.specs.Statements.{text_of}
use Rattle.conn_model.specs.declared.item.Refusal.{Refusal}
use Rattle.conn_manager.specs.Statuses.{retold, reply_of}
use Rattle.conn_drivers.proofs.Heard.{heard_run}
use Rattle.conn_drivers.proofs.wire.Wire.run.Goals as goal

pub returns-clause-hears : goal.returns-clause-hears
returns-clause-hears g c =
    let S = g.S.Server in
    let old = S.seen c.args.self.now.server in
    let mid = S.seen c.run.new.self in
    let s = c.args.self.now.status in
    let refusal = c.err-refusal.ensures.value in
    heard_run S.is_honest old mid (S.seen c.follow.new.self.server) s c.follow.new.self.status c.reply_of.result c.follow.ensures.same (λ e. g.met.S.Server.honesty e c.follow.new.self.server)
    (text_of old.open_statements c.args.source) [] c.run.result c.run.ensures (c.reply_of.ensures ∙ ap reply_of refusal) (c.follow.ensures.status ∙ ap (λ (r : Option Refusal). retold mid.dialect r mid.told s) refusal)
