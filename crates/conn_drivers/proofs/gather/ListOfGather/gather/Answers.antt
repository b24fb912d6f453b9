use Rattle.conn_drivers.proofs.GatherSteps.{reads_ask, reads_make}
use Rattle.conn_drivers.proofs.gather.ListOfGather.gather.Goals as goal

pub returns-in-Pg-clause-makes : goal.returns-in-Pg-clause-makes
returns-in-Pg-clause-makes g c =
    let S = g.S.Server in
    let old = c.args.wire.now in
    let did = c.list_by_row in
    reads_make (g.R.RowReader.reads c.args.self.now.reader.now) (S.seen old.server) (S.seen did.new.wire.server) old.status did.new.wire.status did.result.error did.result.reply did.ensures

pub returns-in-Pg-clause-asks : goal.returns-in-Pg-clause-asks
returns-in-Pg-clause-asks g c =
    let S = g.S.Server in
    let old = c.args.wire.now in
    let did = c.list_by_row in
    reads_ask (g.R.RowReader.reads c.args.self.now.reader.now) (S.seen old.server) (S.seen did.new.wire.server) old.status did.new.wire.status did.result.error did.result.reply did.ensures

pub returns-in-Mysql : goal.returns-in-Mysql
returns-in-Mysql g c =
    let S = g.S.Server in
    let old = c.args.wire.now in
    let did = c.read_rows in
    let reads = g.R.RowReader.reads c.args.self.now.reader.now in
    record {
      makes = reads_make reads (S.seen old.server) (S.seen did.new.self.server) old.status did.new.self.status did.result.error did.result.reply did.ensures;
      asks = reads_ask reads (S.seen old.server) (S.seen did.new.self.server) old.status did.new.self.status did.result.error did.result.reply did.ensures;
    }
