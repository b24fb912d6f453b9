use Rattle.conn_session.proofs.BlockAnswers.{error_closes, error_counted}
use Rattle.conn_session.proofs.calls.close_kept.Goals as goal

pub returns-in-Err-clause-acts : goal.returns-in-Err-clause-acts
returns-in-Err-clause-acts g c =
    let view = g.C.SimpleConnection.view in
    let old = view c.args.connection.now in
    let new = view c.rollback_transaction-answer.new.conn in
    rw (c.in-Err.is)
    (error_closes g.C.SimpleConnection.is_honest old new c.rollback_transaction-answer.result c.rollback_transaction-answer.ensures.acts c.args.errors c.in-Err.e c.rollback_answer.result c.rollback_answer.ensures)

pub returns-in-Err-clause-cause : goal.returns-in-Err-clause-cause
returns-in-Err-clause-cause g c =
    let view = g.C.SimpleConnection.view in
    let old = view c.args.connection.now in
    let new = view c.rollback_transaction-answer.new.conn in
    rw (c.in-Err.is)
    (error_counted c.args.kind old.seen new.seen c.args.errors c.in-Err.e c.rollback_transaction-answer.result c.rollback_answer.result c.rollback_answer.ensures c.rollback_transaction-answer.ensures.refused)
