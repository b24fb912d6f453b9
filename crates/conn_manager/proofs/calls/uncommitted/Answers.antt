use Rattle.std.proofs.Common.{◌≡◌, true, Some, rules, refl}
use Rattle.conn_model.specs.Process.{map_process}
use Rattle.conn_manager.specs.Manages.{after_commit_rollback, done, rollback_of, rolls_back, uncommitted}
use Rattle.conn_manager.specs.Statuses.{valid}
use Rattle.conn_manager.proofs.Steps.{goes_as, made}
use Rattle.conn_manager.proofs.calls.uncommitted.Goals as goal

pub returns-in-Some-clause-tells : goal.returns-in-Some-clause-tells
returns-in-Some-clause-tells g c =
    let C = g.C.SimpleConnection in
    let e = c.args.e in
    let t = c.in-Some.t in
    let old = C.view c.args.conn.now in
    let mid = C.view c.send_rollback-reply.new.conn in
    let new = C.view c.settle.new.conn in
    let is : old.status ≡ valid (Some t) = search rules in
    let due : rolls_back c.args.depth t ≡ true = search rules in
    let outcome = done c.after_commit_rollback-outcome.result.reply c.after_commit_rollback-outcome.result.status in
    goes_as C.is_honest (λ d s. map_process (after_commit_rollback e) (rollback_of d s t)) (λ d. uncommitted d c.args.depth e) (valid (Some t)) old new c.settle.result is (λ d. rw due refl)
    (made C.is_honest (after_commit_rollback e) (λ d s. rollback_of d s t) c.send_rollback-reply.result _ outcome old mid new c.settle.result c.send_rollback-reply.ensures.tells c.after_commit_rollback-outcome.ensures c.status-in-Some.ensures c.settle.ensures.reply c.settle.ensures.status)
