use Rattle.std.proofs.Common.{sym, ap, ◌∙◌}
use Rattle.conn_model.specs.Nuls.{nul_fault}
use Rattle.conn_model.specs.declared.item.Dialect.{Dialect}
use Rattle.conn_drivers.proofs.Heard.{bare_heard, bare_stopped}
use Rattle.conn_drivers.proofs.wire.Wire.try_exec.Goals as goal

pub returns-in-Some-clause-acts : goal.returns-in-Some-clause-acts
returns-in-Some-clause-acts g c =
    let S = g.S.Server in
    let text = c.args.query.now in
    bare_stopped S.is_honest text (S.seen c.args.self.now.server) c.args.self.now.status c.in-Some.place
    (ap (λ (d : Dialect). nul_fault d text) (sym c.dialect.ensures) ∙ sym c.nul_fault.ensures ∙ c.in-Some.is)

pub returns-in-None-clause-acts : goal.returns-in-None-clause-acts
returns-in-None-clause-acts g c =
    let S = g.S.Server in
    let text = c.args.query.now in
    bare_heard S.is_honest text (S.seen c.args.self.now.server) (S.seen c.exec.new.self.server) c.args.self.now.status c.exec.new.self.status c.exec.result
    (ap (λ (d : Dialect). nul_fault d text) (sym c.dialect.ensures) ∙ sym c.nul_fault.ensures ∙ c.in-None.is) c.exec.ensures.hears
