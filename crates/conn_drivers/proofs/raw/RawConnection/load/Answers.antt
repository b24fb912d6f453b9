use Rattle.std.proofs.Common.{◌≡◌, refl, subst, sym, ap, ◌∙◌, None, Result, Some}
use Rattle.std.specs.Prelude.{IfErr}
use Rattle.conn_result.specs.declared.error.Error.{Error}
use Rattle.conn_result.specs.declared.error.Error.TheVariants.{OutOfMemory}
use Rattle.conn_model.specs.Seen.{Seen}
use Rattle.conn_model.specs.declared.item.Dialect.{Dialect}
use Rattle.conn_cache.specs.Faults.{query_fault}
use Rattle.conn_manager.specs.Views.{View}
use Rattle.conn_drivers.specs.Queried.{known_of}
use Rattle.conn_drivers.specs.Raws.{shows}
use Rattle.conn_drivers.proofs.LoadEnds.{load_between, load_fault, load_idle}
use Rattle.conn_drivers.proofs.raw.RawConnection.load.Goals as goal

pub returns-in-Err-clause-loads : goal.returns-in-Err-clause-loads
returns-in-Err-clause-loads g c =
    let S = g.S.Server in
    let q = g.Q.Query.view c.args.source.now in
    let told = g.H.Instrumentation.told in
    let room = c.reserve_for in
    let old : View = shows S.seen told c.args.self.now in
    let roomy : View = record old { seen = S.seen room.new.self.wire.server } in
    let new : View = shows S.seen told room.new.self in
    let here : new ≡ roomy = λ j. record { seen = S.seen room.new.self.wire.server; status = room.ensures.status j; heeded = told (room.ensures.handler j); cache = known_of (room.ensures.cache j) } in
    let e = c.in-Err.e in
    let memory : e ≡ OutOfMemory = subst (λ (r : Result (Unit {0}) Error). IfErr r (λ x. x ≡ OutOfMemory)) c.in-Err.is room.ensures.err in
    load_idle S.is_honest q (g.G.Gather.makes c.args.gather.now) old roomy new room.ensures.reserved.keeps refl c.refused.result.error c.refused.result.reply e c.refused.ensures.error c.refused.ensures.reply memory here

pub returns-in-Some-clause-loads : goal.returns-in-Some-clause-loads
returns-in-Some-clause-loads g c =
    let S = g.S.Server in
    let q = g.Q.Query.view c.args.source.now in
    let told = g.H.Instrumentation.told in
    let room = c.reserve_for in
    let old : View = shows S.seen told c.args.self.now in
    let roomy : View = record old { seen = S.seen room.new.self.wire.server } in
    let new : View = shows S.seen told room.new.self in
    let here : new ≡ roomy = λ j. record { seen = S.seen room.new.self.wire.server; status = room.ensures.status j; heeded = told (room.ensures.handler j); cache = known_of (room.ensures.cache j) } in
    let d : (S.seen room.new.self.wire.server).dialect ≡ old.seen.dialect = ap (λ (x : Seen). x.dialect) room.ensures.reserved.keeps in
    let found : query_fault (S.seen room.new.self.wire.server).dialect q ≡ Some c.in-Some.e = cc in
    load_fault S.is_honest q (g.G.Gather.makes c.args.gather.now) old roomy new room.ensures.reserved.keeps refl c.refused-in-Some.result.error c.refused-in-Some.result.reply c.in-Some.e c.refused-in-Some.ensures.error c.refused-in-Some.ensures.reply (ap (λ (x : Dialect). query_fault x q) (sym d) ∙ found) here

pub returns-in-None-clause-loads : goal.returns-in-None-clause-loads
returns-in-None-clause-loads g c =
    let S = g.S.Server in
    let q = g.Q.Query.view c.args.source.now in
    let told = g.H.Instrumentation.told in
    let old = c.args.self.now in
    let roomy = c.reserve_for.new.self in
    let did = c.load in
    let d : (S.seen roomy.wire.server).dialect ≡ (S.seen old.wire.server).dialect = ap (λ (x : Seen). x.dialect) c.reserve_for.ensures.reserved.keeps in
    let found : query_fault (S.seen roomy.wire.server).dialect q ≡ None = cc in
    let none : query_fault (S.seen old.wire.server).dialect q ≡ None = ap (λ (x : Dialect). query_fault x q) (sym d) ∙ found in
    load_between S.is_honest q (λ w. S.seen w.server) (λ w. w.status) told (S.seen old.wire.server) roomy.wire did.new.self roomy.cache did.new.cache roomy.handler did.new.handler (g.G.Gather.makes c.args.gather.now) did.result.error did.result.reply
    c.reserve_for.ensures.reserved.keeps old.wire.status (known_of old.cache) (told old.handler) c.reserve_for.ensures.status (ap known_of c.reserve_for.ensures.cache) (ap told c.reserve_for.ensures.handler) none did.ensures.loads
