use Rattle.std.proofs.Common.{subst, sym, Result, Option, ℕ}
use Rattle.conn_result.specs.declared.error.Error.{Error}
use Rattle.conn_model.specs.declared.item.Dialect.{Dialect}
use Rattle.conn_cache.specs.QueryProcesses.{without_value}
use Rattle.conn_manager.specs.Manages.{HasServerCause}
use Rattle.conn_drivers.specs.Loading.{AsksBy, BeginsIf, shut_by}
use Rattle.conn_drivers.specs.Standing.{AreHeld}
use Rattle.conn_drivers.proofs.LoadSteps.{load_asks, load_cause, load_ends, load_held, loads_on, start_asks}
use Rattle.conn_drivers.proofs.wire.Wire.load.Goals as goal

pub returns-in-Ok-clause-loads : goal.returns-in-Ok-clause-loads
returns-in-Ok-clause-loads g c =
    let S = g.S.Server in
    let q = g.Q.Query.view c.args.source.now in
    let start = c.start in
    let got = c.gather-gathered in
    let old = S.seen c.args.self.now.server in
    let mid = S.seen start.new.self.server in
    let there = subst (λ (r : Result (Option ℕ) Error). BeginsIf S.is_honest q.sql old mid r) c.in-Ok.is start.ensures.begins in
    loads_on S.is_honest q (λ w. S.seen w.server) (λ w. w.status) g.I.Instrumentation.told c.args.self.now start.new.self c.args.cache.now start.new.cache c.args.handler.now start.new.handler (g.G.Gather.makes c.args.gather.now) got.result.error got.result.reply
    start.result c.in-Ok.statement c.in-Ok.statement got.new.wire c.end.new.self c.in-Ok.is start.ensures.starts start.ensures.dialect there (λ e. g.met.S.Server.honesty e got.new.wire.server) got.ensures.makes c.end.ensures.seen c.end.ensures.status

pub gather-gathered-requires : goal.gather-gathered-requires
gather-gathered-requires g c =
    let S = g.S.Server in
    let q = g.Q.Query.view c.args.source.now in
    record { fresh = (subst (λ (r : Result (Option ℕ) Error). BeginsIf S.is_honest q.sql (S.seen c.args.self.now.server) (S.seen c.start.new.self.server) r) c.in-Ok.is c.start.ensures.begins).given }

pub returns-in-Ok-clause-cause : goal.returns-in-Ok-clause-cause
returns-in-Ok-clause-cause g c =
    let S = g.S.Server in
    let start = c.start in
    let got = c.gather-gathered in
    load_cause (g.G.Gather.makes c.args.gather.now) got.result.error got.result.reply (S.seen c.args.self.now.server) (S.seen start.new.self.server) (S.seen got.new.wire.server) (S.seen c.end.new.self.server) start.new.self.status got.new.wire.status c.in-Ok.statement
    got.ensures.makes c.end.ensures.seen (g.met.G.Gather.law c.args.gather.now) start.ensures.cause.later

pub returns-in-Ok-clause-asks : goal.returns-in-Ok-clause-asks
returns-in-Ok-clause-asks g c =
    let S = g.S.Server in
    let q = g.Q.Query.view c.args.source.now in
    let start = c.start in
    let got = c.gather-gathered in
    let old = S.seen c.args.self.now.server in
    let mid = S.seen start.new.self.server in
    let last = S.seen got.new.wire.server in
    let there = subst (λ (r : Result (Option ℕ) Error). BeginsIf S.is_honest q.sql old mid r) c.in-Ok.is start.ensures.begins in
    let asks = subst (λ (d : Dialect). AsksBy (g.G.Gather.asks_all c.args.gather.now d) mid last got.result.reply) start.ensures.dialect got.ensures.asks in
    load_asks (g.G.Gather.makes c.args.gather.now) got.result.error got.result.reply old mid last (S.seen c.end.new.self.server) start.new.self.status got.new.wire.status c.in-Ok.statement
    got.ensures.makes c.end.ensures.seen (g.G.Gather.asks_all c.args.gather.now old.dialect) there.given asks

pub returns-in-Ok-clause-held : goal.returns-in-Ok-clause-held
returns-in-Ok-clause-held g c =
    let S = g.S.Server in
    let start = c.start in
    let got = c.gather-gathered in
    let mid = S.seen start.new.self.server in
    let held = subst (λ (r : Result (Option ℕ) Error). AreHeld (shut_by mid.open_statements r) start.new.cache) c.in-Ok.is start.ensures.held in
    load_held (g.G.Gather.makes c.args.gather.now) got.result.error got.result.reply (S.seen c.args.self.now.server) mid (S.seen got.new.wire.server) (S.seen c.end.new.self.server) start.new.self.status got.new.wire.status c.in-Ok.statement
    got.ensures.makes c.end.ensures.seen start.new.cache held

pub returns-in-Err-clause-loads : goal.returns-in-Err-clause-loads
returns-in-Err-clause-loads g c =
    let S = g.S.Server in
    let q = g.Q.Query.view c.args.source.now in
    let start = c.start in
    load_ends S.is_honest q (λ w. S.seen w.server) (λ w. w.status) g.I.Instrumentation.told c.args.self.now start.new.self c.args.cache.now start.new.cache c.args.handler.now start.new.handler (g.G.Gather.makes c.args.gather.now) c.refused.result.error c.refused.result.reply
    start.result c.in-Err.e c.in-Err.is c.refused.ensures.error c.refused.ensures.reply start.ensures.starts

pub returns-in-Err-clause-cause : goal.returns-in-Err-clause-cause
returns-in-Err-clause-cause g c =
    let S = g.S.Server in
    let old = S.seen c.args.self.now.server in
    let new = S.seen c.start.new.self.server in
    subst (λ (r : Result _ Error). HasServerCause old new (without_value r)) (sym c.refused.ensures.reply)
    (subst (λ (r : Result (Option ℕ) Error). HasServerCause old new (without_value r)) c.in-Err.is c.start.ensures.cause)

pub returns-in-Err-clause-asks : goal.returns-in-Err-clause-asks
returns-in-Err-clause-asks g c =
    let S = g.S.Server in
    let q = g.Q.Query.view c.args.source.now in
    let old = S.seen c.args.self.now.server in
    let new = S.seen c.start.new.self.server in
    let given = subst (λ (r : Result (Option ℕ) Error). BeginsIf S.is_honest q.sql old new r) c.in-Err.is c.start.ensures.begins in
    start_asks (g.G.Gather.asks_all c.args.gather.now old.dialect) old new c.refused.result.reply c.in-Err.e c.refused.ensures.reply given

pub returns-in-Err-clause-held : goal.returns-in-Err-clause-held
returns-in-Err-clause-held g c =
    let S = g.S.Server in
    subst (λ (r : Result (Option ℕ) Error). AreHeld (shut_by (S.seen c.start.new.self.server).open_statements r) c.start.new.cache) c.in-Err.is c.start.ensures.held
