use Rattle.std.proofs.Common.{ap}
use Rattle.conn_manager.specs.Views.{View}
use Rattle.conn_drivers.proofs.CursorSteps.{held_ended}
use Rattle.conn_drivers.proofs.lent_rows.LentRows.finish.Goals as goal

pub invariant_of-self-2 : goal.invariant_of-self-2
invariant_of-self-2 g c =
    let S = g.S.Server in
    let self = c.args.self in
    let old = self.conn.now.raw in
    let new = c.finish.new.self in
    record { held = held_ended self.statement (S.seen old.wire.server) (S.seen new.wire.server) old.cache new.cache (ap (λ (v : View). v.seen.open_statements) c.finish.ensures.view) c.finish.ensures.cache self.held }
