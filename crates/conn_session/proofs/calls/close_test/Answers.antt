use Rattle.std.proofs.Common.{sym}
use Rattle.conn_session.proofs.BlockAnswers.{test_wants, test_closes, test_counted, memory_counted}
use Rattle.conn_session.proofs.calls.close_test.Goals as goal

pub returns-then-wants_memory-clause-acts : goal.returns-then-wants_memory-clause-acts
returns-then-wants_memory-clause-acts g c =
    let view = g.C.SimpleConnection.view in
    let r = c.rollback_transaction-rolled_back.result in
    test_wants g.C.SimpleConnection.is_honest (view c.args.connection.now) (view c.rollback_transaction-rolled_back.new.conn) r c.rollback_transaction-rolled_back.ensures.acts c.args.answer (sym c.if-wants_memory.ensures)

pub returns-then-wants_memory-clause-cause : goal.returns-then-wants_memory-clause-cause
returns-then-wants_memory-clause-cause g c = memory_counted _ _ c.args.answer c.rollback_transaction-rolled_back.result (sym c.if-wants_memory.ensures) c.rollback_transaction-rolled_back.ensures.refused.later

pub returns-else-wants_memory-clause-acts : goal.returns-else-wants_memory-clause-acts
returns-else-wants_memory-clause-acts g c =
    let view = g.C.SimpleConnection.view in
    let r = c.rollback_transaction-rolled_back.result in
    test_closes g.C.SimpleConnection.is_honest (view c.args.connection.now) (view c.rollback_transaction-rolled_back.new.conn) r c.rollback_transaction-rolled_back.ensures.acts c.args.answer (sym c.if-wants_memory.ensures)

pub returns-else-wants_memory-clause-cause : goal.returns-else-wants_memory-clause-cause
returns-else-wants_memory-clause-cause g c = test_counted _ _ c.args.answer c.rollback_transaction-rolled_back.ensures.refused.later
