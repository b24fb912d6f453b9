use Rattle.std.proofs.Common.{subst, sym}
use Rattle.conn_model.specs.Caches.{Cache}
use Rattle.conn_cache.specs.Soundness.{IsSound}
use Rattle.conn_cache.specs.Preparers.{StandBeside}
use Rattle.conn_cache.proofs.Closing.{each_own}
use Rattle.conn_cache.proofs.statement_cache.StatementCache.set_cache_size.Goals as goal

pub returns-then-ne-clause-others : goal.returns-then-ne-clause-others
returns-then-ne-clause-others g c sound =
    let T = g.row.T.Denot in
    let before = g.P.Preparer.stands c.args.preparer.now in
    let here = subst (λ (v : Cache T). IsSound before v) (sym c.self.view_is) sound in
    let closed = c.close_all.ensures.others here.apart (each_own before _ _ here.own) in
    subst (λ (v : Cache T). StandBeside v.statements before (g.P.Preparer.stands c.close_all.new.preparer)) c.self.view_is closed
