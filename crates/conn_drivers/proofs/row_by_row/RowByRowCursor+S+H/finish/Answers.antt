use Rattle.conn_drivers.proofs.CursorSteps.{held_ended}
use Rattle.conn_drivers.proofs.row_by_row.RowByRowCursor+S+H.finish.Goals as goal

pub invariant_of-self-2 : goal.invariant_of-self-2
invariant_of-self-2 g c =
    let S = g.S.Server in
    let self = c.args.self in
    let old = self.conn.now.raw in
    let new = c.finish_all.new.self in
    record { held = held_ended self.statement (S.seen old.wire.server) (S.seen new.wire.server) old.cache new.cache c.finish_all.ensures.open c.finish_all.ensures.cache self.held }
