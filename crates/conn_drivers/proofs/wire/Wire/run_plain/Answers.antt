use Rattle.conn_drivers.proofs.Querying.{runs_out_closed}
use Rattle.conn_drivers.proofs.wire.Wire.run_plain.Goals as goal

pub returns-in-Mysql-clause-runs : goal.returns-in-Mysql-clause-runs
returns-in-Mysql-clause-runs g c =
    let S = g.S.Server in
    let ran = c.run_query-reply in
    runs_out_closed S.is_honest (g.Q.Query.view c.args.source.now) c.args.statement.number (S.seen c.args.self.now.server) (S.seen ran.new.self.server) (S.seen c.close_statement.new.self) c.args.self.now.status ran.new.self.status ran.result c.close_statement.ensures ran.ensures.runs
