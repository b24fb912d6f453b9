use Rattle.std.proofs.Common.{◌≡◌, rules, Ok, Err}
use Rattle.conn_drivers.proofs.Executed.{asks_refused, asks_prepared}
use Rattle.conn_drivers.proofs.wire.Wire.run_prepared.Goals as goal

pub returns-in_err-statement : goal.returns-in_err-statement
returns-in_err-statement g c =
    let S = g.S.Server in
    let e = c.in_err-statement.field-0.0 in
    let is : c.prepare.result ≡ Err e = search rules in
    let answers : c.from_residual.result ≡ Err e = search rules in
    let done = c.prepare.ensures in
    asks_refused S.is_honest c.args.text.now (S.seen c.args.self.now.server) (S.seen c.prepare.new.self.server) c.args.self.now.status c.prepare.new.self.status c.prepare.result e c.from_residual.result is answers
    done.hears done.cause done.opens done.item_room done.byte_room

pub returns : goal.returns
returns g c =
    let S = g.S.Server in
    let statement = c.in_ok-statement.statement in
    let is : c.prepare.result ≡ Ok statement = search rules in
    let done = c.prepare.ensures in
    let ran = c.run-reply.ensures in
    asks_prepared S.is_honest c.args.text.now statement (S.seen c.args.self.now.server) (S.seen c.prepare.new.self.server) (S.seen c.run-reply.new.self.server) (S.seen c.close_statement.new.self) c.args.self.now.status c.prepare.new.self.status
    c.run-reply.new.self.status c.prepare.result c.run-reply.result is done.hears done.cause done.opens done.item_room done.byte_room ran.hears ran.cause ran.open ran.item_room ran.byte_room c.close_statement.ensures
