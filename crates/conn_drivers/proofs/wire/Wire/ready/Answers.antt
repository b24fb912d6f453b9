use Rattle.std.proofs.Common.{◌≡◌}
use Rattle.conn_cache.specs.QueryProcesses.{types_for}
use Rattle.conn_drivers.proofs.Readying.{keeps_none, looked_cause, readies, spends_one}
use Rattle.conn_drivers.proofs.wire.Wire.ready.Goals as goal

pub returns-clause-readies : goal.returns-clause-readies
returns-clause-readies g c =
    let S = g.S.Server in
    let q = g.Q.Query.view c.args.source.now in
    let did = c.cached_statement in
    let types : c.types_for-types.result.now ≡ types_for (S.seen c.args.self.now.server).dialect q = cc in
    readies S.is_honest q (λ w. S.seen w.server) (λ w. w.status) g.I.Instrumentation.told c.args.self.now did.new.preparer c.args.cache.now did.new.self c.args.handler.now did.new.instrumentation did.result (rw types at did.ensures.looks_up)

pub returns-clause-cause : goal.returns-clause-cause
returns-clause-cause g c =
    let S = g.S.Server in
    looked_cause (S.seen c.args.self.now.server) (S.seen c.cached_statement.new.preparer.server) c.cached_statement.result c.cached_statement.ensures.cause

pub returns-clause-spends : goal.returns-clause-spends
returns-clause-spends g c =
    let S = g.S.Server in
    let q = g.Q.Query.view c.args.source.now in
    let did = c.cached_statement in
    spends_one S.is_honest q (λ w. S.seen w.server) (λ w. w.status) g.I.Instrumentation.told c.args.self.now did.new.preparer c.args.cache.now did.new.self c.args.handler.now did.new.instrumentation c.types_for-types.result.now did.result did.ensures.looks_up

pub returns-clause-held : goal.returns-clause-held
returns-clause-held g c = c.cached_statement.ensures.sound c.requires.held

pub returns-clause-own : goal.returns-clause-own
returns-clause-own g c = c.cached_statement.ensures.own c.requires.held

pub returns-clause-none : goal.returns-clause-none
returns-clause-none g c =
    let S = g.S.Server in
    let q = g.Q.Query.view c.args.source.now in
    let did = c.cached_statement in
    keeps_none S.is_honest q (λ w. S.seen w.server) (λ w. w.status) g.I.Instrumentation.told c.args.self.now did.new.preparer c.args.cache.now did.new.self c.args.handler.now did.new.instrumentation c.types_for-types.result.now did.result did.ensures.looks_up
