use Rattle.conn_session.proofs.Responses.{exec_asked, list_asked, one_asked, optional_asked}
use Rattle.std.proofs.Common.{false, true}
use Rattle.conn_drivers.specs.Loaded.{listed}
use Rattle.conn_session.proofs.calls.query.Goals as goal

pub returns-in-Exec-clause-asks : goal.returns-in-Exec-clause-asks
returns-in-Exec-clause-asks g c =
    let C = g.C.SimpleConnection in
    let did = c.execute_returning_count in
    λ queries n found. rw (c.in-Exec.is, c.count_answer.ensures) (exec_asked C.is_honest queries (C.view c.args.connection.now) (C.view did.new.self) n c.args.query.now did.result found did.ensures.queries)

pub returns-in-Load-clause-asks : goal.returns-in-Load-clause-asks
returns-in-Load-clause-asks g c =
    let C = g.C.SimpleConnection in
    let did = c.load_list_by in
    λ queries n found. rw (c.in-Load.is, c.rows_answer.ensures) (list_asked C.is_honest queries (C.view c.args.connection.now) (C.view did.new.self) false n c.args.query.now (listed did.result) found (rw c.reader-reader.ensures at did.ensures.loads))

pub returns-in-Each-clause-asks : goal.returns-in-Each-clause-asks
returns-in-Each-clause-asks g c =
    let C = g.C.SimpleConnection in
    let did = c.load_list_by-in-Each in
    λ queries n found. rw (c.in-Each.is, c.rows_answer-in-Each.ensures) (list_asked C.is_honest queries (C.view c.args.connection.now) (C.view did.new.self) true n c.args.query.now (listed did.result) found (rw c.reader-reader.ensures at did.ensures.loads))

pub returns-in-One-clause-asks : goal.returns-in-One-clause-asks
returns-in-One-clause-asks g c =
    let C = g.C.SimpleConnection in
    let did = c.get_result_by in
    λ queries n found. rw (c.in-One.is, c.row_answer.ensures) (one_asked C.is_honest queries (C.view c.args.connection.now) (C.view did.new.self) n c.args.query.now did.result found (rw c.reader-reader.ensures at did.ensures.loads))

pub returns-in-Optional-clause-asks : goal.returns-in-Optional-clause-asks
returns-in-Optional-clause-asks g c =
    let C = g.C.SimpleConnection in
    let did = c.get_result_by-in-Optional in
    λ queries n found. rw (c.in-Optional.is, c.optional_answer.ensures, c.optional.ensures) (optional_asked C.is_honest queries (C.view c.args.connection.now) (C.view did.new.self) n c.args.query.now did.result found (rw c.reader-reader.ensures at did.ensures.loads))
