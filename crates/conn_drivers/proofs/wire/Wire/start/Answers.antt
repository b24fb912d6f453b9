use Rattle.std.proofs.Common.{◌≡◌, ap, subst, refl, rules, Err, Ok, Some, Result, Option, ℕ}
use Rattle.std.specs.Prelude.{slice_get}
use Rattle.conn_result.specs.declared.error.Error.{Error}
use Rattle.conn_cache.specs.declared.statement_cache.MaybeCached.TheVariants.{CannotCache, Cached}
use Rattle.conn_drivers.specs.Loading.{RunsRows}
use Rattle.conn_drivers.proofs.LoadSteps.{kept_columns, starts}
use Rattle.conn_drivers.proofs.wire.Wire.start.Goals as goal

pub returns-in-Ok-clause-starts : goal.returns-in-Ok-clause-starts
returns-in-Ok-clause-starts g c =
    let S = g.S.Server in
    let q = g.Q.Query.view c.args.source.now in
    let ready = c.ready in
    let ran = c.run_for_rows in
    let place = c.in-Ok-Cached.place in
    let t = c.in-Some.statement.now in
    let is : ready.result ≡ Ok (Cached place) = cc in
    let there : slice_get ready.new.cache.statements place ≡ Some t = search rules in
    let has = ap (λ (n : ℕ). let r : Result ℕ Error = Ok n in r) (kept_columns ready.new.cache.statements place t there) in
    let went = subst (λ (r : Result (Unit {0}) Error). RunsRows S.is_honest q t.columns (S.seen ready.new.self.server) (S.seen ran.new.self.server) ready.new.self.status ran.new.self.status r) c.in-Ok.is ran.ensures.runs in
    starts S.is_honest q (λ w. S.seen w.server) (λ w. w.status) g.I.Instrumentation.told c.args.self.now ready.new.self c.args.cache.now ready.new.cache c.args.handler.now ready.new.handler {T = Option ℕ} ready.result (Cached place) t.columns ran.new.self (Ok _)
    is has ready.ensures.readies ready.ensures.spends.dialect went

pub returns-in-Err-run_for_rows-clause-starts : goal.returns-in-Err-run_for_rows-clause-starts
returns-in-Err-run_for_rows-clause-starts g c =
    let S = g.S.Server in
    let q = g.Q.Query.view c.args.source.now in
    let ready = c.ready in
    let ran = c.run_for_rows in
    let place = c.in-Ok-Cached.place in
    let t = c.in-Some.statement.now in
    let is : ready.result ≡ Ok (Cached place) = cc in
    let there : slice_get ready.new.cache.statements place ≡ Some t = search rules in
    let has = ap (λ (n : ℕ). let r : Result ℕ Error = Ok n in r) (kept_columns ready.new.cache.statements place t there) in
    let went = subst (λ (r : Result (Unit {0}) Error). RunsRows S.is_honest q t.columns (S.seen ready.new.self.server) (S.seen ran.new.self.server) ready.new.self.status ran.new.self.status r) c.in-Err-run_for_rows.is ran.ensures.runs in
    starts S.is_honest q (λ w. S.seen w.server) (λ w. w.status) g.I.Instrumentation.told c.args.self.now ready.new.self c.args.cache.now ready.new.cache c.args.handler.now ready.new.handler {T = Option ℕ} ready.result (Cached place) t.columns ran.new.self (Err c.in-Err-run_for_rows.e)
    is has ready.ensures.readies ready.ensures.spends.dialect went

pub returns-in-Ok-CannotCache-clause-starts : goal.returns-in-Ok-CannotCache-clause-starts
returns-in-Ok-CannotCache-clause-starts g c =
    let S = g.S.Server in
    let q = g.Q.Query.view c.args.source.now in
    let ready = c.ready in
    let ran = c.run_plain_for_rows in
    let t = c.in-Ok-CannotCache.statement in
    let is : ready.result ≡ Ok (CannotCache t) = cc in
    starts S.is_honest q (λ w. S.seen w.server) (λ w. w.status) g.I.Instrumentation.told c.args.self.now ready.new.self c.args.cache.now ready.new.cache c.args.handler.now ready.new.handler {T = Option ℕ} ready.result (CannotCache t) t.columns ran.new.self ran.result
    is refl ready.ensures.readies ready.ensures.spends.dialect ran.ensures.runs
