use Rattle.std.proofs.Common.{◌≡◌, ap, Option, List, [], ℕ}
use Rattle.std.specs.Option.{unwrap_or}
use Rattle.conn_model.specs.Statements.{text_of}
use Rattle.conn_drivers.proofs.Querying.{runs_out}
use Rattle.conn_drivers.proofs.wire.Wire.run_query.Goals as goal

pub returns-clause-runs : goal.returns-clause-runs
returns-clause-runs g c =
    let S = g.S.Server in
    let q = g.Q.Query.view c.args.source.now in
    let old = S.seen c.args.self.now.server in
    let words : text_of old.open_statements c.args.by ≡ q.sql = ap (λ (o : Option (List ℕ)). unwrap_or o []) c.requires.opened in
    runs_out S.is_honest q (text_of old.open_statements c.args.by) old (S.seen c.run_with.new.self.server) c.args.self.now.status c.run_with.new.self.status c.run_with.result words (rw c.binds.ensures at c.run_with.ensures.hears)
