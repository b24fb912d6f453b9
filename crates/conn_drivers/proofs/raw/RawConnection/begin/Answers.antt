use Rattle.std.proofs.Common.{ap, ◌∙◌, refl, Some}
use Rattle.conn_model.specs.Events.{Heeded}
use Rattle.conn_manager.specs.Views.{View}
use Rattle.conn_drivers.specs.Raws.{shows}
use Rattle.conn_drivers.proofs.CursorSteps.{begins_err, begins_ok, held_begun}
use Rattle.conn_drivers.proofs.raw.RawConnection.begin.Goals as goal

pub returns-in-Ok-clause-begins : goal.returns-in-Ok-clause-begins
returns-in-Ok-clause-begins g c =
    let S = g.S.Server in
    let told = g.H.Instrumentation.told in
    let q = g.Q.Query.view c.args.source.now in
    let old : View = shows S.seen told c.args.self.now in
    let started : View = record old { heeded = told c.on_connection_event.new.self } in
    let did = c.start in
    let new : View = shows S.seen told did.new.self in
    begins_ok S.is_honest q c.new-query.result.query.now old started new did.result c.in-Ok.statement (c.new-query.ensures ∙ c.sql.ensures)
    (ap (λ (h : Heeded). let v : View = record old { heeded = h } in v) c.on_connection_event.ensures) c.in-Ok.is did.ensures.starts did.ensures.dialect did.ensures.cause did.ensures.begins

pub returns-in-Ok-clause-held : goal.returns-in-Ok-clause-held
returns-in-Ok-clause-held g c =
    let did = c.start in
    held_begun did.result c.in-Ok.statement (g.S.Server.seen did.new.self.wire.server) did.new.self.cache c.in-Ok.is did.ensures.held

pub returns-in-Err-clause-begins : goal.returns-in-Err-clause-begins
returns-in-Err-clause-begins g c =
    let S = g.S.Server in
    let told = g.H.Instrumentation.told in
    let q = g.Q.Query.view c.args.source.now in
    let old : View = shows S.seen told c.args.self.now in
    let started : View = record old { heeded = told c.on_connection_event.new.self } in
    let did = c.start in
    let mid : View = shows S.seen told did.new.self in
    let new : View = record mid { heeded = told c.on_connection_event-in-Err.new.self } in
    begins_err S.is_honest q c.new-query.result.query.now old started mid new did.result c.in-Err.e (Some c.in-Err.e) (c.new-query.ensures ∙ c.sql.ensures)
    (ap (λ (h : Heeded). let v : View = record old { heeded = h } in v) c.on_connection_event.ensures) c.in-Err.is did.ensures.starts did.ensures.cause refl
    (ap (λ (h : Heeded). let v : View = record mid { heeded = h } in v) c.on_connection_event-in-Err.ensures)
