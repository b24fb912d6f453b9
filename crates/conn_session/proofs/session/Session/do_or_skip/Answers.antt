use Rattle.std.proofs.Common.{◌∙◌, sym}
use Rattle.conn_script.specs.Requests.{verb_word}
use Rattle.conn_session.specs.Steps.{entered}
use Rattle.conn_session.specs.Worlds.{world_at}
use Rattle.conn_session.proofs.Verbs.{does_deed, skips_by}
use Rattle.conn_session.proofs.session.Session.do_or_skip.Goals as goal

pub returns-in-Some : goal.returns-in-Some
returns-in-Some g c = λ line.
    let honest = g.K.Connector.is_honest in
    let k = g.K.Connector.held c.args.manager.now.connector.now in
    let w = world_at g.C.SimpleConnection.view c.args.self.now k c.args.manager.now.dialect c.args.manager.now.database_url in
    let mid = world_at g.C.SimpleConnection.view c.act.new.self k c.args.manager.now.dialect c.args.manager.now.database_url in
    let word = verb_word c.args.verb.now in
    does_deed honest line c.args.n c.args.verb.now w c.in-Some.deed mid (entered line word c.args.n mid c.act.result) (sym c.in-Some.is ∙ c.deed.ensures)
    (c.act.ensures line word)

pub returns-in-None : goal.returns-in-None
returns-in-None g c = λ line.
    let w = world_at g.C.SimpleConnection.view c.args.self.now (g.K.Connector.held c.args.manager.now.connector.now) c.args.manager.now.dialect c.args.manager.now.database_url in
    skips_by g.K.Connector.is_honest line c.args.n c.args.verb.now w (sym c.in-None.is ∙ c.deed.ensures) c.requires
