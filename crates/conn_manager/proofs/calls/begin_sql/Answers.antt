use Rattle.std.proofs.Common.{◌≡◌, rules, refl, inr, None}
use Rattle.conn_model.specs.Events.{BeginTransaction}
use Rattle.conn_model.specs.Process.{Tell}
use Rattle.conn_manager.specs.Manages.{begin_by, begin_sql_process}
use Rattle.conn_manager.specs.Statuses.{valid}
use Rattle.conn_manager.proofs.Steps.{goes_as, room_first, event_first}
use Rattle.conn_manager.proofs.calls.begin_sql.Goals as goal

pub returns-in_ok-reserve-in-None-clause-tells : goal.returns-in_ok-reserve-in-None-clause-tells
returns-in_ok-reserve-in-None-clause-tells g c =
    let C = g.C.SimpleConnection in
    let sql = c.args.sql.now in
    let old = C.view c.args.conn.now in
    let room = C.view c.reserve.new.self in
    let told = C.view c.event.new.self in
    let new = C.view c.send_begin_sql.new.conn in
    let is : old.status ≡ valid None = search rules in
    inr (goes_as C.is_honest (λ d s. Tell (BeginTransaction 1) (begin_by d sql s)) (λ d. begin_sql_process d sql) (valid None) old new c.send_begin_sql.result is (λ d. refl)
    (room_first C.is_honest (λ d s. Tell (BeginTransaction 1) (begin_by d sql s)) old room new c.send_begin_sql.result c.reserve.ensures.reserved.keeps c.reserve.ensures.same
    (event_first C.is_honest (BeginTransaction 1) (λ d. begin_by d sql) room told new c.send_begin_sql.result c.event.ensures c.send_begin_sql.ensures.tells)))
