use Rattle.std.proofs.Common.{◌≡◌, ◌∙◌, List, ℕ, ap, rules, sym}
use Rattle.conn_manager.specs.Views.{View}
use Rattle.conn_drivers.specs.Cursors.{cursor_end, refusal_in}
use Rattle.conn_drivers.specs.Loaded.{listed}
use Rattle.conn_drivers.specs.Raws.{shows}
use Rattle.conn_drivers.proofs.CursorLaws.{first_loads}
use Rattle.conn_drivers.proofs.driver.Driver.first_rows.Goals as goal

pub returns : goal.returns
returns g c =
    let S = g.S.Server in
    let told = g.H.Instrumentation.told in
    let q = g.Q.Query.view c.args.source.now in
    let rows = c.in_ok-rows.rows in
    let last = c.take_rows-first.new.self in
    let begun : View = shows S.seen told rows.conn.now.raw in
    let over : View = shows S.seen told last.conn.now.raw in
    let sql : last.sql.now ≡ q.sql = c.take_rows-first.ensures.sql ∙ c.in_ok-rows.ensures.sql in
    let ends = c.finish.ensures ∙ ap (λ (w : List ℕ). cursor_end last.statement w (refusal_in last.progress) over) sql in
    let same : c.finish.new.self.0 ≡ c.self-2-1.given.0 = search rules in
    record {
      loads = first_loads S.is_honest q c.args.count (shows S.seen told c.args.self.now.raw) begun over (shows S.seen told c.self-2-1.given.0.raw) last.statement last.progress (listed c.take_rows-first.result)
          c.in_ok-rows.ensures.begins c.take_rows-first.ensures.takes (λ e. g.met.S.Server.honesty e last.conn.now.raw.wire.server) (ap (λ d. shows S.seen told d.raw) (sym same) ∙ ends);
    }
