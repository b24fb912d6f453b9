use Rattle.conn_session.proofs.Responses.{does}
use Rattle.conn_session.proofs.calls.act.Goals as goal

pub returns : goal.returns
returns g c =
    let view = g.C.SimpleConnection.view in
    does g.C.SimpleConnection.is_honest c.args.queries.now (view c.args.connection.now) (view c.ask.new.connection) c.args.deed.now c.ask.result c.ask.ensures.asks c.ask.ensures.cause c.reply_to.result c.reply_to.ensures.reply c.reply_to.ensures.memory
