use Rattle.std.proofs.Common.{◌≡◌, false, refl, List, rules, subst, sym, ◌∙◌, Ok, Err, Some, Result}
use Rattle.std.specs.Prelude.{slice_get}
use Rattle.conn_model.specs.Seen.{Opened}
use Rattle.conn_cache.specs.QueryProcesses.{columns_at, counted, without_value}
use Rattle.conn_model.specs.Caches.{Cache}
use Rattle.conn_cache.specs.Soundness.{IsOwnAnswer}
use Rattle.conn_manager.specs.Manages.{HasServerCause}
use Rattle.conn_drivers.specs.Queried.{KeepsNone, known_of}
use Rattle.conn_drivers.specs.Standing.{AreHeld, stands_in}
use Rattle.conn_drivers.specs.declared.statement.Statement.{Statement}
use Rattle.conn_drivers.proofs.Executed.{caused_after}
use Rattle.conn_result.specs.declared.error.Error.{Error}
use Rattle.conn_cache.specs.declared.statement_cache.MaybeCached.{MaybeCached}
use Rattle.conn_cache.specs.declared.statement_cache.MaybeCached.TheVariants.{CannotCache, Cached}
use Rattle.conn_drivers.proofs.Querying.{counted_cause, kept_runs, plain_runs, plain_shuts, ready_ends, ready_runs}
use Rattle.conn_drivers.proofs.wire.Wire.query.Goals as goal

pub returns-in-Some-clause-queries : goal.returns-in-Some-clause-queries
returns-in-Some-clause-queries g c =
    let S = g.S.Server in
    let q = g.Q.Query.view c.args.source.now in
    let told = g.I.Instrumentation.told in
    let ready = c.ready in
    let place = c.in-Ok-Cached.place in
    let is : ready.result ≡ Ok (Cached place) = cc in
    ready_runs S.is_honest q (λ w. S.seen w.server) (λ w. w.status) told c.args.self.now ready.new.self c.args.cache.now ready.new.cache c.args.handler.now ready.new.handler ready.result (Cached place) (columns_at place (known_of ready.new.cache)) c.run_query.new.self c.run_query.result c.counted_by.result
    is refl ready.ensures.readies ready.ensures.spends.dialect c.run_query.ensures.runs c.counted_by.ensures

pub returns-in-Ok-CannotCache-clause-queries : goal.returns-in-Ok-CannotCache-clause-queries
returns-in-Ok-CannotCache-clause-queries g c =
    let S = g.S.Server in
    let q = g.Q.Query.view c.args.source.now in
    let told = g.I.Instrumentation.told in
    let ready = c.ready in
    let t = c.in-Ok-CannotCache.statement in
    let is : ready.result ≡ Ok (CannotCache t) = cc in
    ready_runs S.is_honest q (λ w. S.seen w.server) (λ w. w.status) told c.args.self.now ready.new.self c.args.cache.now ready.new.cache c.args.handler.now ready.new.handler ready.result (CannotCache t) t.columns c.run_plain.new.self c.run_plain.result c.counted_by-in-Ok-CannotCache.result
    is refl ready.ensures.readies ready.ensures.spends.dialect c.run_plain.ensures.runs c.counted_by-in-Ok-CannotCache.ensures

pub returns-in-Err-clause-queries : goal.returns-in-Err-clause-queries
returns-in-Err-clause-queries g c =
    let S = g.S.Server in
    let q = g.Q.Query.view c.args.source.now in
    let told = g.I.Instrumentation.told in
    let ready = c.ready in
    ready_ends S.is_honest q (λ w. S.seen w.server) (λ w. w.status) told c.args.self.now ready.new.self c.args.cache.now ready.new.cache c.args.handler.now ready.new.handler ready.result c.in-Err.e false (counted q) c.in-Err.is ready.ensures.readies

-- ---- a kept statement

pub run_query-requires-clause-opened : goal.run_query-requires-clause-opened
run_query-requires-clause-opened g c =
    let S = g.S.Server in
    let q = g.Q.Query.view c.args.source.now in
    let mid = S.seen c.ready.new.self.server in
    let place = c.in-Ok-Cached.place in
    let is : c.ready.result ≡ Ok (Cached place) = cc in
    let own = subst (λ (r : Result (MaybeCached Statement) Error). IsOwnAnswer (stands_in mid.open_statements) false q.sql c.ready.new.cache.statements r) is c.ready.ensures.own in
    let there : slice_get c.ready.new.cache.statements place ≡ Some c.in-Some.statement.now = search rules in
    kept_runs mid.open_statements q.sql (slice_get c.ready.new.cache.statements place) c.in-Some.statement.now there own

pub returns-in-Some-clause-cause : goal.returns-in-Some-clause-cause
returns-in-Some-clause-cause g c =
    let S = g.S.Server in
    caused_after (S.seen c.args.self.now.server) (S.seen c.ready.new.self.server) (S.seen c.run_query.new.self.server) (without_value c.counted_by.result) c.ready.ensures.cause.later
    (counted_cause (S.seen c.ready.new.self.server) (S.seen c.run_query.new.self.server) c.run_query.result c.counted_by.result c.counted_by.ensures c.run_query.ensures.cause)

pub returns-in-Some-clause-held : goal.returns-in-Some-clause-held
returns-in-Some-clause-held g c = subst (λ (os : List Opened). AreHeld os c.ready.new.cache) (sym c.run_query.ensures.open) c.ready.ensures.held

-- ---- a statement for one run

pub run_plain-requires-clause-opened : goal.run_plain-requires-clause-opened
run_plain-requires-clause-opened g c =
    let S = g.S.Server in
    let q = g.Q.Query.view c.args.source.now in
    let old = S.seen c.args.self.now.server in
    let mid = S.seen c.ready.new.self.server in
    let t = c.in-Ok-CannotCache.statement in
    let is : c.ready.result ≡ Ok (CannotCache t) = cc in
    let none = subst (λ (r : Result (MaybeCached Statement) Error). KeepsNone old.dialect q.sql old.open_statements mid.open_statements c.args.cache.now c.ready.new.cache r) is c.ready.ensures.none in
    plain_runs old.dialect mid.dialect q.sql old.open_statements mid.open_statements t c.ready.ensures.spends.dialect none.0

pub returns-in-Ok-CannotCache-clause-cause : goal.returns-in-Ok-CannotCache-clause-cause
returns-in-Ok-CannotCache-clause-cause g c =
    let S = g.S.Server in
    caused_after (S.seen c.args.self.now.server) (S.seen c.ready.new.self.server) (S.seen c.run_plain.new.self.server) (without_value c.counted_by-in-Ok-CannotCache.result) c.ready.ensures.cause.later
    (counted_cause (S.seen c.ready.new.self.server) (S.seen c.run_plain.new.self.server) c.run_plain.result c.counted_by-in-Ok-CannotCache.result c.counted_by-in-Ok-CannotCache.ensures c.run_plain.ensures.cause)

pub returns-in-Ok-CannotCache-clause-held : goal.returns-in-Ok-CannotCache-clause-held
returns-in-Ok-CannotCache-clause-held g c =
    let S = g.S.Server in
    let q = g.Q.Query.view c.args.source.now in
    let old = S.seen c.args.self.now.server in
    let mid = S.seen c.ready.new.self.server in
    let t = c.in-Ok-CannotCache.statement in
    let is : c.ready.result ≡ Ok (CannotCache t) = cc in
    let none = subst (λ (r : Result (MaybeCached Statement) Error). KeepsNone old.dialect q.sql old.open_statements mid.open_statements c.args.cache.now c.ready.new.cache r) is c.ready.ensures.none in
    subst (λ (os : List Opened). AreHeld os c.ready.new.cache) (sym (c.run_plain.ensures.open ∙ plain_shuts old.dialect mid.dialect q.sql old.open_statements mid.open_statements t c.ready.ensures.spends.dialect none.0))
    (subst (λ (x : Cache Statement). AreHeld old.open_statements x) (sym none.1) c.requires.held)

-- ---- over with the look-up

pub returns-in-Err-clause-cause : goal.returns-in-Err-clause-cause
returns-in-Err-clause-cause g c =
    let S = g.S.Server in
    let ready = c.ready in
    let is : ready.result ≡ Err c.in-Err.e = cc in
    subst (λ (r : Result (MaybeCached Statement) Error). HasServerCause (S.seen c.args.self.now.server) (S.seen ready.new.self.server) (without_value r)) is ready.ensures.cause
