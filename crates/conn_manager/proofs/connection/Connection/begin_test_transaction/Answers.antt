use Rattle.conn_manager.specs.Manages.{begin_test_process}
use Rattle.conn_manager.proofs.Agreeing.{begin_test_agrees_on}
use Rattle.conn_manager.proofs.Caused.{begin_test_caused, has_server_cause}
use Rattle.conn_manager.proofs.Steps.{acts_from}
use Rattle.conn_manager.proofs.connection.Connection.begin_test_transaction.Goals as goal

pub returns-clause-acts : goal.returns-clause-acts
returns-clause-acts g c =
    let C = g.Self.SimpleConnection in
    acts_from C.is_honest begin_test_process (C.view c.args.self.now) (C.view c.begin_test.new.conn) c.begin_test.result c.begin_test.ensures.tells

pub returns-clause-cause : goal.returns-clause-cause
returns-clause-cause g c =
    let C = g.Self.SimpleConnection in
    let old = C.view c.args.self.now in
    let new = C.view c.begin_test.new.conn in
    let acts = acts_from C.is_honest begin_test_process old new c.begin_test.result c.begin_test.ensures.tells in
    begin_test_caused C.is_honest old new c.begin_test.result acts

pub returns-clause-agrees : goal.returns-clause-agrees
returns-clause-agrees g c =
    let C = g.Self.SimpleConnection in
    let old = C.view c.args.self.now in
    let new = C.view c.begin_test.new.conn in
    let acts = acts_from C.is_honest begin_test_process old new c.begin_test.result c.begin_test.ensures.tells in
    begin_test_agrees_on C.is_honest old new c.begin_test.result acts

pub returns-clause-refused : goal.returns-clause-refused
returns-clause-refused g c =
    let C = g.Self.SimpleConnection in
    let old = C.view c.args.self.now in
    let new = C.view c.begin_test.new.conn in
    let acts = acts_from C.is_honest begin_test_process old new c.begin_test.result c.begin_test.ensures.tells in
    has_server_cause C.is_honest old new c.begin_test.result begin_test_process acts (begin_test_caused C.is_honest old new c.begin_test.result acts)
