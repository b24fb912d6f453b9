use Rattle.std.proofs.Common.{refl}
use Rattle.conn_rows.specs.Lists.{list_answer}
use Rattle.conn_drivers.specs.Loaded.{listed}
use Rattle.conn_drivers.specs.Raws.{shows}
use Rattle.conn_drivers.proofs.LoadEnds.{loads_from}
use Rattle.conn_drivers.proofs.raw.RawConnectionLoadConnection.load_list_by.Goals as goal

pub returns-clause-loads : goal.returns-clause-loads
returns-clause-loads g c =
    let S = g.S.Server in
    let told = g.H.Instrumentation.told in
    let did = c.load_by in
    loads_from S.is_honest (g.Q.Query.view c.args.source.now) listed (list_answer (g.R.RowReader.reads c.args.reader.now)) (shows S.seen told c.args.self.now) (shows S.seen told did.new.self) did.result (λ e. refl) did.ensures.loads
