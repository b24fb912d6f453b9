use Rattle.conn_manager.proofs.Steps.{own_sent}
use Rattle.conn_manager.proofs.calls.send_own.Goals as goal

pub returns-clause-tells : goal.returns-clause-tells
returns-clause-tells g c =
    let C = g.C.SimpleConnection in
    own_sent C.is_honest c.args.text.now (C.view c.args.conn.now) (C.view c.send.new.self) c.send.result c.requires.no_nul c.send.ensures.tells
