use Rattle.std.proofs.Common.{◌≡◌, false, inl, inr, rules, refl, subst, sym, ap, ◌∙◌, Err, None, Result, Some}
use Rattle.std.specs.Prelude.{IfErr}
use Rattle.conn_result.specs.declared.error.Error.{Error}
use Rattle.conn_result.specs.declared.error.Error.TheVariants.{OutOfMemory}
use Rattle.conn_model.specs.Seen.{Seen}
use Rattle.conn_model.specs.declared.item.Dialect.{Dialect}
use Rattle.conn_cache.specs.Faults.{query_fault}
use Rattle.conn_manager.specs.Views.{View}
use Rattle.conn_cache.specs.QueryProcesses.{counted}
use Rattle.conn_drivers.specs.Queried.{known_of}
use Rattle.conn_drivers.specs.Raws.{shows}
use Rattle.conn_drivers.proofs.Querying.{fault_ends, is_idle, wire_between}
use Rattle.conn_drivers.proofs.raw.RawConnection.query.Goals as goal

pub returns-in_err-reserve_for-clause-queries : goal.returns-in_err-reserve_for-clause-queries
returns-in_err-reserve_for-clause-queries g c =
    let S = g.S.Server in
    let q = g.Q.Query.view c.args.source.now in
    let told = g.H.Instrumentation.told in
    let room = c.reserve_for in
    let old : View = shows S.seen told c.args.self.now in
    let roomy : View = record old { seen = S.seen room.new.self.wire.server } in
    let new : View = shows S.seen told room.new.self in
    let here : new ≡ roomy = λ j. record { seen = S.seen room.new.self.wire.server; status = room.ensures.status j; heeded = told (room.ensures.handler j); cache = known_of (room.ensures.cache j) } in
    let e = c.in_err-reserve_for.field-0.0 in
    let is : room.result ≡ Err e = search rules in
    let answers : c.from_residual.result ≡ Err e = search rules in
    let memory : e ≡ OutOfMemory = subst (λ (r : Result _ Error). IfErr r (λ x. x ≡ OutOfMemory)) is room.ensures.err in
    inl (is_idle S.is_honest q old roomy new room.ensures.reserved.keeps refl c.from_residual.result (answers ∙ ap (λ (x : Error). Err x) memory) here)

pub returns-in-Some-clause-queries : goal.returns-in-Some-clause-queries
returns-in-Some-clause-queries g c =
    let S = g.S.Server in
    let q = g.Q.Query.view c.args.source.now in
    let told = g.H.Instrumentation.told in
    let room = c.reserve_for in
    let old : View = shows S.seen told c.args.self.now in
    let roomy : View = record old { seen = S.seen room.new.self.wire.server } in
    let new : View = shows S.seen told room.new.self in
    let here : new ≡ roomy = λ j. record { seen = S.seen room.new.self.wire.server; status = room.ensures.status j; heeded = told (room.ensures.handler j); cache = known_of (room.ensures.cache j) } in
    let d : (S.seen room.new.self.wire.server).dialect ≡ old.seen.dialect = ap (λ (x : Seen). x.dialect) room.ensures.reserved.keeps in
    let found : query_fault (S.seen room.new.self.wire.server).dialect q ≡ Some c.in-Some.e = cc in
    inr (fault_ends S.is_honest q old roomy new room.ensures.reserved.keeps refl false (counted q) c.in-Some.e (ap (λ (x : Dialect). query_fault x q) (sym d) ∙ found) here)

pub returns-in-None-clause-queries : goal.returns-in-None-clause-queries
returns-in-None-clause-queries g c =
    let S = g.S.Server in
    let q = g.Q.Query.view c.args.source.now in
    let told = g.H.Instrumentation.told in
    let old = c.args.self.now in
    let roomy = c.reserve_for.new.self in
    let did = c.query in
    let d : (S.seen roomy.wire.server).dialect ≡ (S.seen old.wire.server).dialect = ap (λ (x : Seen). x.dialect) c.reserve_for.ensures.reserved.keeps in
    let found : query_fault (S.seen roomy.wire.server).dialect q ≡ None = cc in
    let none : query_fault (S.seen old.wire.server).dialect q ≡ None = ap (λ (x : Dialect). query_fault x q) (sym d) ∙ found in
    wire_between S.is_honest q (λ w. S.seen w.server) (λ w. w.status) told (S.seen old.wire.server) roomy.wire did.new.self roomy.cache did.new.cache roomy.handler did.new.handler c.reserve_for.ensures.reserved.keeps old.wire.status (known_of old.cache) (told old.handler) did.result
    c.reserve_for.ensures.status (ap known_of c.reserve_for.ensures.cache) (ap told c.reserve_for.ensures.handler) none did.ensures.queries
