use Rattle.std.proofs.Common.{refl}
use Rattle.conn_rows.specs.Lists.{first_answer}
use Rattle.conn_drivers.specs.Raws.{shows}
use Rattle.conn_drivers.proofs.LoadEnds.{asks_first, loads_from}
use Rattle.conn_drivers.proofs.raw.RawConnectionLoadConnection.get_result_by.Goals as goal

pub returns-clause-loads : goal.returns-clause-loads
returns-clause-loads g c =
    let S = g.S.Server in
    let told = g.H.Instrumentation.told in
    let did = c.load_by in
    loads_from S.is_honest (g.Q.Query.view c.args.source.now) (λ r. r) (first_answer (g.R.RowReader.reads c.args.reader.now)) (shows S.seen told c.args.self.now) (shows S.seen told did.new.self) did.result (λ e. refl) did.ensures.loads

pub returns-clause-asks : goal.returns-clause-asks
returns-clause-asks g c =
    let S = g.S.Server in
    let old = S.seen c.args.self.now.wire.server in
    let did = c.load_by in
    asks_first old.dialect old (S.seen did.new.self.wire.server) did.result did.ensures.asks
