use Rattle.std.proofs.Common.{◌≡◌, ap, ◌∙◌, rules}
use Rattle.std.specs.Option.{option_copied}
use Rattle.conn_model.specs.Events.{Heeded}
use Rattle.conn_manager.specs.Views.{View}
use Rattle.conn_drivers.specs.Raws.{shows}
use Rattle.conn_drivers.proofs.LoadEnds.{loads_by}
use Rattle.conn_drivers.proofs.raw.RawConnection.load_by.Goals as goal

pub returns-clause-loads : goal.returns-clause-loads
returns-clause-loads g c =
    let S = g.S.Server in
    let told = g.H.Instrumentation.told in
    let q = g.Q.Query.view c.args.source.now in
    let old : View = shows S.seen told c.args.self.now in
    let started : View = record old { heeded = told c.on_connection_event.new.self } in
    let did = c.load-loaded in
    let mid : View = shows S.seen told did.new.self in
    let new : View = record mid { heeded = told c.on_connection_event-2.new.self } in
    let error : option_copied c.as_ref-told.result ≡ did.result.error = search rules in
    loads_by S.is_honest q (g.G.Gather.makes c.args.gather.now) c.new-query.result.query.now old started mid new did.result.error (option_copied c.as_ref-told.result) did.result.reply
    (c.new-query.ensures ∙ c.sql.ensures) (ap (λ (h : Heeded). let v : View = record old { heeded = h } in v) c.on_connection_event.ensures) did.ensures.loads error
    (ap (λ (h : Heeded). let v : View = record mid { heeded = h } in v) c.on_connection_event-2.ensures)
