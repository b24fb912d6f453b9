use Rattle.conn_manager.specs.Manages.{done}
use Rattle.conn_manager.proofs.Steps.{begun_by}
use Rattle.conn_manager.proofs.calls.send_begin_sql.Goals as goal

pub returns-clause-tells : goal.returns-clause-tells
returns-clause-tells g c =
    let C = g.C.SimpleConnection in
    let made = done c.begun-outcome.result.reply c.begun-outcome.result.status in
    begun_by C.is_honest c.args.sql.now c.send-reply.result _ made (C.view c.args.conn.now) (C.view c.send-reply.new.self) (C.view c.settle.new.conn) c.settle.result c.send-reply.ensures.tells c.begun-outcome.ensures c.status.ensures c.settle.ensures.reply c.settle.ensures.status
