use Rattle.conn_drivers.proofs.Querying.{sets_cache_size}
use Rattle.conn_drivers.proofs.raw.RawConnectionCachingConnection.set_prepared_statement_cache_size.Goals as goal

pub returns : goal.returns
returns g c =
    let S = g.S.Server in
    let did = c.set_cache_size in
    sets_cache_size (λ w. S.seen w.server) (λ w. w.status) c.args.self.now.wire did.new.preparer (g.H.Instrumentation.told c.args.self.now.handler) c.args.size c.args.self.now.cache did.new.self did.ensures.resizes.register did.ensures.resizes.statements
