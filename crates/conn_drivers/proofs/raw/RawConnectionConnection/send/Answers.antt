use Rattle.std.proofs.Common.{◌≡◌, refl, rules}
use Rattle.std.specs.Option.{option_copied}
use Rattle.std.specs.Result.{result_err}
use Rattle.conn_manager.specs.Views.{View}
use Rattle.conn_manager.proofs.Sends.{sends_as}
use Rattle.conn_drivers.specs.Raws.{shows}
use Rattle.conn_drivers.proofs.Sent.{tells_none}
use Rattle.conn_drivers.proofs.raw.RawConnectionConnection.send.Goals as goal

pub returns-clause-tells : goal.returns-clause-tells
returns-clause-tells g c =
    let S = g.S.Server in
    let told = g.H.Instrumentation.told in
    let text = c.args.query.now in
    let started : View = shows S.seen told c.event.new.self in
    let wire = c.try_exec-reply.new.self in
    let mid : View = record started { seen = S.seen wire.server; status = wire.status } in
    let reply = c.try_exec-reply.result in
    let error : option_copied c.err-error.result ≡ result_err reply = search rules in
    sends_as S.is_honest text c.new-shown.result.query.now (shows S.seen told c.args.self.now) started mid (shows S.seen told c.event-2.new.self) reply (option_copied c.err-error.result)
    c.new-shown.ensures c.event.ensures (tells_none S.is_honest text started mid reply refl c.try_exec-reply.ensures.acts) error c.event-2.ensures
