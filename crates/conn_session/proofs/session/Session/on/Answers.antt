use Rattle.std.proofs.Common.{◌≡◌, List, ap, sym, subst, ◌∙◌, rules, Err}
use Rattle.conn_reading.specs.Seats.{at_number}
use Rattle.conn_reading.specs.declared.blocks.Block.{Block}
use Rattle.conn_script.specs.declared.command.Word.{Word}
use Rattle.conn_script.specs.declared.request.Request.TheVariants.{On}
use Rattle.conn_session.specs.Steps.{Steps, entry_at}
use Rattle.conn_session.specs.Worlds.{context_of, world_at}
use Rattle.conn_session.proofs.Verbs.{failed_step, told_reply}
use Rattle.conn_session.proofs.session.Session.on.Goals as goal

pub returns : goal.returns
returns g c =
    let honest = g.K.Connector.is_honest in
    let k = g.K.Connector.held c.args.manager.now.connector.now in
    let w = world_at g.C.SimpleConnection.view c.args.self.now k c.args.manager.now.dialect c.args.manager.now.database_url in
    let mid = world_at g.C.SimpleConnection.view c.do_or_skip.new.self k c.args.manager.now.dialect c.args.manager.now.database_url in
    let n = c.args.n in
    let reply = c.in_ok-reply.reply in
    told_reply honest c.args.line n c.args.verb.now w mid reply _ c.entry.result c.in_ok-follow.ensures.after
    (c.entry.ensures ∙ ap (λ (x : Word). entry_at c.args.line x n reply (at_number n (context_of mid).out)) c.word.ensures) c.in_ok-reply.ensures

pub returns-in_err-reply : goal.returns-in_err-reply
returns-in_err-reply g c =
    let honest = g.K.Connector.is_honest in
    let k = g.K.Connector.held c.args.manager.now.connector.now in
    let w = world_at g.C.SimpleConnection.view c.args.self.now k c.args.manager.now.dialect c.args.manager.now.database_url in
    let mid = world_at g.C.SimpleConnection.view c.do_or_skip.new.self k c.args.manager.now.dialect c.args.manager.now.database_url in
    let failed : c.from_residual.result ≡ Err c.in_err-reply.field-0.0 = search rules in
    subst (Steps honest c.args.line (On c.args.n c.args.verb.now) w mid) (sym failed)
    (failed_step honest c.args.line c.args.n c.args.verb.now w mid c.in_err-reply.field-0.0 _ (c.in_err-reply.ensures c.args.line))

pub returns-in_err-follow : goal.returns-in_err-follow
returns-in_err-follow g c =
    let honest = g.K.Connector.is_honest in
    let k = g.K.Connector.held c.args.manager.now.connector.now in
    let w = world_at g.C.SimpleConnection.view c.args.self.now k c.args.manager.now.dialect c.args.manager.now.database_url in
    let mid = world_at g.C.SimpleConnection.view c.do_or_skip.new.self k c.args.manager.now.dialect c.args.manager.now.database_url in
    let failed : c.from_residual-in_err-follow.result ≡ Err c.in_err-follow.field-0.0 = search rules in
    subst (λ (blocks : List Block). Steps honest c.args.line (On c.args.n c.args.verb.now) w (record mid { pool = record mid.pool { blocks = blocks } }) c.from_residual-in_err-follow.result) (sym c.in_err-follow.ensures.kept)
    (subst (Steps honest c.args.line (On c.args.n c.args.verb.now) w mid) (sym failed)
    (failed_step honest c.args.line c.args.n c.args.verb.now w mid c.in_err-follow.field-0.0 _ (c.in_ok-reply.ensures c.args.line)))
