use Rattle.std.proofs.Common.{◌≡◌, ap, sym, ◌∙◌, None}
use Rattle.conn_model.specs.Seen.{Seen}
use Rattle.conn_model.specs.declared.item.Dialect.{Dialect}
use Rattle.conn_cache.specs.Faults.{query_fault}
use Rattle.conn_drivers.specs.Queried.{known_of}
use Rattle.conn_drivers.proofs.CursorSteps.{held_open, start_between}
use Rattle.conn_drivers.proofs.raw.RawConnection.start.Goals as goal

pub invariant_of-self : goal.invariant_of-self
invariant_of-self g c = record { held = held_open (g.S.Server.seen c.start.new.self.server).open_statements c.start.result c.start.new.cache c.start.ensures.held }

pub returns-in-None-clause-starts : goal.returns-in-None-clause-starts
returns-in-None-clause-starts g c =
    let S = g.S.Server in
    let q = g.Q.Query.view c.args.source.now in
    let told = g.H.Instrumentation.told in
    let old = c.args.self.now in
    let roomy = c.reserve_for.new.self in
    let did = c.start in
    let d : (S.seen roomy.wire.server).dialect ≡ (S.seen old.wire.server).dialect = ap (λ (x : Seen). x.dialect) c.reserve_for.ensures.reserved.keeps in
    let found : query_fault (S.seen roomy.wire.server).dialect q ≡ None = cc in
    let none : query_fault (S.seen old.wire.server).dialect q ≡ None = ap (λ (x : Dialect). query_fault x q) (sym d) ∙ found in
    start_between S.is_honest q (λ w. S.seen w.server) (λ w. w.status) told (S.seen old.wire.server) roomy.wire did.new.self roomy.cache did.new.cache roomy.handler did.new.handler did.result
    c.reserve_for.ensures.reserved.keeps old.wire.status (known_of old.cache) (told old.handler) c.reserve_for.ensures.status (ap known_of c.reserve_for.ensures.cache) (ap told c.reserve_for.ensures.handler) none did.ensures.starts
