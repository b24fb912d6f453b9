use Rattle.std.proofs.Common.{ap, sym, ◌∙◌, None, Option, Ok, Err, Result}
use Rattle.std.specs.Result.{result_err}
use Rattle.conn_result.specs.declared.error.Error.{Error}
use Rattle.conn_model.specs.declared.item.Refusal.{Refusal}
use Rattle.conn_model.specs.declared.reply.Prepared.{Prepared}
use Rattle.conn_manager.specs.Statuses.{retold, reply_of}
use Rattle.conn_drivers.proofs.Heard.{heard_prepare, opens_statement}
use Rattle.conn_drivers.proofs.wire.Wire.prepare.Goals as goal

pub returns-in-Ok-clause-hears : goal.returns-in-Ok-clause-hears
returns-in-Ok-clause-hears g c =
    let S = g.S.Server in
    let mid = S.seen c.prepare.new.self in
    let s = c.args.self.now.status in
    let accepted = sym (ap (λ (r : Result Prepared Refusal). result_err r) c.in-Ok.is) in
    heard_prepare S.is_honest (S.seen c.args.self.now.server) mid (S.seen c.follow.new.self.server) s c.follow.new.self.status (Ok tt) c.follow.ensures.same (λ e. g.met.S.Server.honesty e c.follow.new.self.server)
    None c.args.text.now c.prepare.result c.prepare.ensures (ap reply_of accepted) (c.follow.ensures.status ∙ ap (λ (r : Option Refusal). retold mid.dialect r mid.told s) accepted)

pub returns-in-Ok-clause-opens : goal.returns-in-Ok-clause-opens
returns-in-Ok-clause-opens g c =
    let S = g.S.Server in
    opens_statement c.args.text.now (S.seen c.args.self.now.server) (S.seen c.prepare.new.self) (S.seen c.follow.new.self.server) c.in-Ok.prepared c.prepare.result c.in-Ok.is c.prepare.ensures c.follow.ensures.same

pub returns-in-Err-clause-hears : goal.returns-in-Err-clause-hears
returns-in-Err-clause-hears g c =
    let S = g.S.Server in
    let mid = S.seen c.prepare.new.self in
    let s = c.args.self.now.status in
    let new = c.follow-in-Err.new.self in
    let refused = sym (ap (λ (r : Result Prepared Refusal). result_err r) c.in-Err.is) in
    heard_prepare S.is_honest (S.seen c.args.self.now.server) mid (S.seen new.server) s new.status (Err c.error_of.result) c.follow-in-Err.ensures.same (λ e. g.met.S.Server.honesty e new.server)
    None c.args.text.now c.prepare.result c.prepare.ensures (ap (λ (e : Error). Err e) c.error_of.ensures ∙ ap reply_of refused) (c.follow-in-Err.ensures.status ∙ ap (λ (r : Option Refusal). retold mid.dialect r mid.told s) refused)
