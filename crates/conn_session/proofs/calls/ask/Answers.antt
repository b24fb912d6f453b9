use Rattle.std.proofs.Common.{◌≡◌, ◌∙◌, ℕ, List, refl, subst, sym}
use Rattle.conn_model.specs.Beginnings.{form_text}
use Rattle.conn_manager.specs.Manages.{begin_process, begin_sql_process, begin_test_process, commit_process, rollback_process}
use Rattle.conn_manager.specs.Views.{ActsOrMemoryFrom}
use Rattle.conn_reading.specs.Asking.{close_process}
use Rattle.conn_reading.specs.declared.deed.Deed.TheVariants as deeds
use Rattle.conn_session.proofs.Responses.{batch_asked, manager_asked, none_asked, ping_asked, size_asked}
use Rattle.conn_session.proofs.calls.ask.Goals as goal

pub returns-in-Batch-clause-asks : goal.returns-in-Batch-clause-asks
returns-in-Batch-clause-asks g c =
    let C = g.C.SimpleConnection in
    rw (c.in-Batch.is, c.done_answer.ensures)
    (batch_asked C.is_honest c.args.queries.now (C.view c.args.connection.now) (C.view c.batch_execute.new.self) c.in-Batch.text c.batch_execute.result (rw c.as_str.ensures at c.batch_execute.ensures.acts) c.batch_execute.ensures.cache)

pub returns-in-Begin-clause-asks : goal.returns-in-Begin-clause-asks
returns-in-Begin-clause-asks g c =
    let C = g.C.SimpleConnection in
    rw (c.in-Begin.is, c.done_answer-in-Begin.ensures)
    (manager_asked C.is_honest c.args.queries.now (C.view c.args.connection.now) (C.view c.begin_transaction.new.conn) deeds.Begin begin_process c.begin_transaction.result (λ d s k. refl) refl (λ e m. m) c.begin_transaction.ensures.acts
    c.begin_transaction.ensures.cache)

pub returns-in-BeginBy-clause-asks : goal.returns-in-BeginBy-clause-asks
returns-in-BeginBy-clause-asks g c =
    let C = g.C.SimpleConnection in
    let form = c.in-BeginBy.form in
    let text : c.as_str-in-BeginBy.result.now ≡ form_text form = c.as_str-in-BeginBy.ensures.value ∙ c.sql-text.ensures.text in
    rw (c.in-BeginBy.is, c.done_answer-in-BeginBy.ensures)
    (manager_asked C.is_honest c.args.queries.now (C.view c.args.connection.now) (C.view c.begin_transaction_sql.new.conn) (deeds.BeginBy form) (λ d s. begin_sql_process d (form_text form) s) c.begin_transaction_sql.result (λ d s k. refl) refl (λ e m. m)
    (subst (λ (t : List ℕ). ActsOrMemoryFrom C.is_honest (λ d. begin_sql_process d t) (C.view c.args.connection.now) (C.view c.begin_transaction_sql.new.conn) c.begin_transaction_sql.result) text c.begin_transaction_sql.ensures.acts) c.begin_transaction_sql.ensures.cache)

pub returns-in-Commit-clause-asks : goal.returns-in-Commit-clause-asks
returns-in-Commit-clause-asks g c =
    let C = g.C.SimpleConnection in
    rw (c.in-Commit.is, c.done_answer-in-Commit.ensures)
    (manager_asked C.is_honest c.args.queries.now (C.view c.args.connection.now) (C.view c.commit_transaction.new.conn) deeds.Commit commit_process c.commit_transaction.result (λ d s k. refl) refl (λ e m. m) c.commit_transaction.ensures.acts
    c.commit_transaction.ensures.cache)

pub returns-in-Rollback-clause-asks : goal.returns-in-Rollback-clause-asks
returns-in-Rollback-clause-asks g c =
    let C = g.C.SimpleConnection in
    rw (c.in-Rollback.is, c.done_answer-in-Rollback.ensures)
    (manager_asked C.is_honest c.args.queries.now (C.view c.args.connection.now) (C.view c.rollback_transaction.new.conn) deeds.Rollback rollback_process c.rollback_transaction.result (λ d s k. refl) refl (λ e m. m)
    c.rollback_transaction.ensures.acts c.rollback_transaction.ensures.cache)

pub returns-in-TestBegin-clause-asks : goal.returns-in-TestBegin-clause-asks
returns-in-TestBegin-clause-asks g c =
    let C = g.C.SimpleConnection in
    rw (c.in-TestBegin.is, c.done_answer-in-TestBegin.ensures)
    (manager_asked C.is_honest c.args.queries.now (C.view c.args.connection.now) (C.view c.begin_test_transaction.new.self) deeds.TestBegin begin_test_process c.begin_test_transaction.result (λ d s k. refl) refl (λ e m. m)
    c.begin_test_transaction.ensures.acts c.begin_test_transaction.ensures.cache)

pub returns-in-Close-clause-asks : goal.returns-in-Close-clause-asks
returns-in-Close-clause-asks g c =
    let C = g.C.SimpleConnection in
    let kind = c.in-Close.kind in
    let answer = c.in-Close.answer in
    rw (c.in-Close.is, c.done_answer-in-Close.ensures)
    (manager_asked C.is_honest c.args.queries.now (C.view c.args.connection.now) (C.view c.close.new.connection) (deeds.Close kind answer) (close_process kind answer) c.close.result (λ d s k. refl) refl (λ e m. m) c.close.ensures.acts c.close.ensures.cache)

pub returns-in-Some-clause-cause : goal.returns-in-Some-clause-cause
returns-in-Some-clause-cause g c = c.query.ensures.cause c.args.deed.now

-- the script declares no such query
pub returns-in-None-clause-asks : goal.returns-in-None-clause-asks
returns-in-None-clause-asks g c =
    let C = g.C.SimpleConnection in
    rw c.in-Query.is (none_asked C.is_honest c.args.queries.now c.in-Query.call c.in-Query.number (C.view c.args.connection.now) (sym c.in-None.ensures))

pub returns-in-CacheSize-clause-asks : goal.returns-in-CacheSize-clause-asks
returns-in-CacheSize-clause-asks g c =
    let C = g.C.SimpleConnection in
    rw c.in-CacheSize.is
    (size_asked C.is_honest c.args.queries.now c.in-CacheSize.size (C.view c.args.connection.now) (C.view c.set_prepared_statement_cache_size.new.self) c.set_prepared_statement_cache_size.ensures)

pub returns-in-Ping-clause-asks : goal.returns-in-Ping-clause-asks
returns-in-Ping-clause-asks g c =
    let C = g.C.SimpleConnection in
    rw (c.in-Ping.is, c.done_answer-in-Ping.ensures) (ping_asked C.is_honest c.args.queries.now (C.view c.args.connection.now) (C.view c.ping.new.self) c.ping.result c.ping.ensures.pings)
