use Rattle.conn_server.specs.Feeds.{armed_in}
use Rattle.conn_server.proofs.scripted.ScriptedServerServer.close_statement.Goals as goal

pub returns-clause-closes : goal.returns-clause-closes
returns-clause-closes c =
    let statements = c.close.ensures.statements (armed_in c.args.self.now.feed) in
    cc (statements, c.close.ensures.items, c.close.ensures.last)
