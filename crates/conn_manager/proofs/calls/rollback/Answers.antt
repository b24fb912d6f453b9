use Rattle.std.proofs.Common.{◌≡◌, rules, refl, inr, Some}
use Rattle.conn_manager.specs.Manages.{rollback_of, rollback_process}
use Rattle.conn_manager.specs.Statuses.{valid}
use Rattle.conn_manager.proofs.Steps.{goes_as, room_first}
use Rattle.conn_manager.proofs.calls.rollback.Goals as goal

pub returns-clause-tells : goal.returns-clause-tells
returns-clause-tells g c =
    let C = g.C.SimpleConnection in
    let t = c.in_ok-t.t in
    let old = C.view c.args.conn.now in
    let room = C.view c.reserve.new.self in
    let new = C.view c.send_rollback.new.conn in
    let is : old.status ≡ valid (Some t) = search rules in
    inr (goes_as C.is_honest (λ d s. rollback_of d s t) rollback_process (valid (Some t)) old new c.send_rollback.result is (λ d. refl)
    (room_first C.is_honest (λ d s. rollback_of d s t) old room new c.send_rollback.result c.reserve.ensures.reserved.keeps c.reserve.ensures.same c.send_rollback.ensures.tells))
