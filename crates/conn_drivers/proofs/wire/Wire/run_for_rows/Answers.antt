use Rattle.std.proofs.Common.{◌≡◌, ap, true, false, Ok, Result, ℕ}
use Rattle.conn_result.specs.declared.error.Error.{Error}
use Rattle.conn_cache.specs.LoadProcesses.{looks}
use Rattle.conn_cache.specs.QueryProcesses.{lacks_metadata}
use Rattle.conn_drivers.specs.Queried.{after_run}
use Rattle.conn_drivers.proofs.LoadSteps.{rows_out}
use Rattle.conn_drivers.proofs.wire.Wire.run_for_rows.Goals as goal

pub returns-in-Ok-clause-runs : goal.returns-in-Ok-clause-runs
returns-in-Ok-clause-runs g c =
    let S = g.S.Server in
    let q = g.Q.Query.view c.args.source.now in
    let old = S.seen c.args.self.now.server in
    let ran = c.run_query in
    let has : lacks_metadata true old.dialect c.args.columns ≡ false = cc in
    rows_out {T = Unit {0}} S.is_honest q c.args.columns old (S.seen ran.new.self.server) c.args.self.now.status ran.new.self.status ran.result (Ok tt) has
    (λ gather d k. ap (λ (r : Result ℕ Error). after_run q (looks gather d q) r ran.new.self.status k) c.in-Ok.is) ran.ensures.runs
