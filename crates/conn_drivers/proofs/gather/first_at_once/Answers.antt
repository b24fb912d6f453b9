use Rattle.std.proofs.Common.{refl, ap, None}
use Rattle.conn_drivers.specs.GatherLaws.{MakesFirst}
use Rattle.conn_drivers.specs.Loaded.{listed}
use Rattle.conn_drivers.proofs.GatherSteps.{held_asks, held_fails, held_makes}
use Rattle.conn_drivers.proofs.gather.first_at_once.Goals as goal

pub returns-in-Ok-clause-makes : goal.returns-in-Ok-clause-makes
returns-in-Ok-clause-makes g c =
    let S = g.S.Server in
    let reads = g.R.RowReader.reads c.args.reader.now in
    let held = c.hold_rows in
    held_makes (MakesFirst reads) (S.seen c.args.wire.now.server) (S.seen held.new.self.server) c.args.wire.now.status held.new.self.status None c.read_first.result (listed held.result) c.in-Ok.rows.items (ap listed c.in-Ok.is) held.ensures refl c.read_first.ensures

pub returns-in-Ok-clause-asks : goal.returns-in-Ok-clause-asks
returns-in-Ok-clause-asks g c =
    let S = g.S.Server in
    let reads = g.R.RowReader.reads c.args.reader.now in
    let held = c.hold_rows in
    held_asks (MakesFirst reads) (S.seen c.args.wire.now.server) (S.seen held.new.self.server) c.args.wire.now.status held.new.self.status None c.read_first.result (listed held.result) c.in-Ok.rows.items (ap listed c.in-Ok.is) held.ensures

pub returns-in-Err-clause-makes : goal.returns-in-Err-clause-makes
returns-in-Err-clause-makes g c =
    let S = g.S.Server in
    let reads = g.R.RowReader.reads c.args.reader.now in
    let held = c.hold_rows in
    held_fails (MakesFirst reads) (S.seen c.args.wire.now.server) (S.seen held.new.self.server) c.args.wire.now.status held.new.self.status c.refused.result.error c.refused.result.reply (listed held.result) c.in-Err.e (ap listed c.in-Err.is) held.ensures c.refused.ensures.error c.refused.ensures.reply
