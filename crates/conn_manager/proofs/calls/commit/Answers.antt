use Rattle.std.proofs.Common.{◌≡◌, rules, refl, inr, Some}
use Rattle.conn_manager.specs.Manages.{commit_in, commit_process}
use Rattle.conn_manager.specs.Statuses.{valid}
use Rattle.conn_manager.proofs.Steps.{goes_as, room_first}
use Rattle.conn_manager.proofs.calls.commit.Goals as goal

pub returns-clause-tells : goal.returns-clause-tells
returns-clause-tells g c =
    let C = g.C.SimpleConnection in
    let t = c.in_ok-t.t in
    let old = C.view c.args.conn.now in
    let room = C.view c.reserve.new.self in
    let new = C.view c.send_commit.new.conn in
    let is : old.status ≡ valid (Some t) = search rules in
    inr (goes_as C.is_honest (λ d s. commit_in d s (Some t)) commit_process (valid (Some t)) old new c.send_commit.result is (λ d. refl)
    (room_first C.is_honest (λ d s. commit_in d s (Some t)) old room new c.send_commit.result c.reserve.ensures.reserved.keeps c.reserve.ensures.same c.send_commit.ensures.tells))
