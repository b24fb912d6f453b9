use Rattle.std.proofs.Common.{refl, ap, inl, None, Ok}
use Rattle.conn_drivers.specs.GatherLaws.{MakesHeld}
use Rattle.conn_drivers.specs.Loaded.{listed}
use Rattle.conn_drivers.proofs.GatherSteps.{held_fails, held_makes}
use Rattle.conn_drivers.proofs.gather.RowsHeldGather.gather.Goals as goal

pub returns-in-Ok-clause-makes : goal.returns-in-Ok-clause-makes
returns-in-Ok-clause-makes g c =
    let S = g.S.Server in
    let held = c.hold_rows in
    held_makes MakesHeld (S.seen c.args.wire.now.server) (S.seen held.new.self.server) c.args.wire.now.status held.new.self.status None (Ok c.in-Ok.rows) (listed held.result) c.in-Ok.rows.items (ap listed c.in-Ok.is) held.ensures refl (inl refl)

pub returns-in-Err-clause-makes : goal.returns-in-Err-clause-makes
returns-in-Err-clause-makes g c =
    let S = g.S.Server in
    let held = c.hold_rows in
    held_fails MakesHeld (S.seen c.args.wire.now.server) (S.seen held.new.self.server) c.args.wire.now.status held.new.self.status c.refused.result.error c.refused.result.reply (listed held.result) c.in-Err.e (ap listed c.in-Err.is) held.ensures c.refused.ensures.error c.refused.ensures.reply
