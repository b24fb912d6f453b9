use Rattle.std.proofs.Common.{◌≡◌, ap, ◌∙◌, rules}
use Rattle.std.specs.Option.{option_copied}
use Rattle.std.specs.Result.{result_err}
use Rattle.conn_model.specs.Events.{Heeded}
use Rattle.conn_manager.specs.Views.{View}
use Rattle.conn_drivers.specs.Raws.{shows}
use Rattle.conn_drivers.proofs.Querying.{queries_as}
use Rattle.conn_drivers.proofs.raw.RawConnectionCachingConnection.execute_returning_count.Goals as goal

pub returns-clause-queries : goal.returns-clause-queries
returns-clause-queries g c =
    let S = g.S.Server in
    let told = g.H.Instrumentation.told in
    let q = g.Q.Query.view c.args.source.now in
    let old : View = shows S.seen told c.args.self.now in
    let started : View = record old { heeded = told c.on_connection_event.new.self } in
    let mid : View = shows S.seen told c.query-reply.new.self in
    let new : View = record mid { heeded = told c.on_connection_event-2.new.self } in
    let reply = c.query-reply.result in
    let error : option_copied c.err-error.result ≡ result_err reply = search rules in
    queries_as S.is_honest q c.new-query.result.query.now old started mid new reply (option_copied c.err-error.result)
    (c.new-query.ensures ∙ c.sql.ensures) (ap (λ (h : Heeded). let v : View = record old { heeded = h } in v) c.on_connection_event.ensures) c.query-reply.ensures.queries error
    (ap (λ (h : Heeded). let v : View = record mid { heeded = h } in v) c.on_connection_event-2.ensures)
