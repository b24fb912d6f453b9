use Rattle.std.proofs.Common.{subst, Ok}
use Rattle.conn_script.specs.declared.request.Request.{Request}
use Rattle.conn_session.specs.Steps.{Steps}
use Rattle.conn_session.specs.Worlds.{world_at}
use Rattle.conn_session.proofs.session.Session.run.Goals as goal

pub returns-in-Put-clause-steps : goal.returns-in-Put-clause-steps
returns-in-Put-clause-steps g c =
    let old = world_at g.C.SimpleConnection.view c.args.self.now (g.K.Connector.held c.args.manager.now.connector.now) c.args.manager.now.dialect c.args.manager.now.database_url in
    let new = world_at g.C.SimpleConnection.view c.put.new.self (g.K.Connector.held c.put.new.manager.connector.now) c.put.new.manager.dialect c.put.new.manager.database_url in
    subst (λ (r : Request). Steps g.K.Connector.is_honest c.args.command.now.line r old new (Ok c.put.result)) c.in-Put.ensures c.put.ensures.steps
