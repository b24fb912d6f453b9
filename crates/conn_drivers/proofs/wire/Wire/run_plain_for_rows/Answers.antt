use Rattle.std.proofs.Common.{subst, Err, Result, Option, ℕ}
use Rattle.conn_result.specs.declared.error.Error.{Error}
use Rattle.conn_drivers.specs.Loading.{RunsRows}
use Rattle.conn_drivers.proofs.LoadSteps.{rows_out_closed}
use Rattle.conn_drivers.proofs.wire.Wire.run_plain_for_rows.Goals as goal

pub returns-in-Err-run_for_rows-clause-runs : goal.returns-in-Err-run_for_rows-clause-runs
returns-in-Err-run_for_rows-clause-runs g c =
    let S = g.S.Server in
    let q = g.Q.Query.view c.args.source.now in
    let old = S.seen c.args.self.now.server in
    let ran = c.run_for_rows-in-Mysql in
    let new = S.seen ran.new.self.server in
    let failed = subst (λ (r : Result (Unit {0}) Error). RunsRows S.is_honest q c.args.statement.columns old new c.args.self.now.status ran.new.self.status r) c.in-Err-run_for_rows.is ran.ensures.runs in
    rows_out_closed {T = Option ℕ} S.is_honest q c.args.statement.columns c.args.statement.number old new (S.seen c.close_statement.new.self) c.args.self.now.status ran.new.self.status (Err c.in-Err-run_for_rows.e) c.close_statement.ensures failed
