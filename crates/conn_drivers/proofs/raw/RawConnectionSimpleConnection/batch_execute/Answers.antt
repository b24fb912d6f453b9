use Rattle.std.proofs.Common.{inr}
use Rattle.conn_manager.specs.Manages.{send_process}
use Rattle.conn_manager.proofs.Steps.{room_first}
use Rattle.conn_drivers.specs.Raws.{shows}
use Rattle.conn_drivers.proofs.raw.RawConnectionSimpleConnection.batch_execute.Goals as goal

pub returns-clause-tells : goal.returns-clause-tells
returns-clause-tells g c =
    let seen = g.S.Server.seen in
    let told = g.H.Instrumentation.told in
    inr (room_first g.S.Server.is_honest (λ d. send_process d c.args.query.now) (shows seen told c.args.self.now) (shows seen told c.reserve.new.self) (shows seen told c.send.new.self) c.send.result
    c.reserve.ensures.reserved.keeps c.reserve.ensures.same c.send.ensures.tells)
