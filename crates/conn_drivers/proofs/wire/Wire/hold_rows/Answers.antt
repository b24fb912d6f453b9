use Rattle.std.proofs.Common.{◌≡◌, ◌++◌, ◌∷◌, [], ◌∙◌, List, Option, Result, Ok, Some, sym, subst}
use Rattle.std.specs.Prelude.{MatchResult}
use Rattle.conn_result.specs.declared.error.Error.{Error}
use Rattle.conn_result.specs.declared.error.Error.TheVariants.{OutOfMemory}
use Rattle.conn_model.specs.Armed.{Values}
use Rattle.conn_drivers.specs.Loading.{HasRead, TakesRow}
use Rattle.conn_drivers.proofs.ReadSteps.{holds_fail, holds_memory, read_more}
use Rattle.conn_drivers.proofs.wire.Wire.hold_rows.Goals as goal

pub loop-row-preserved : goal.loop-row-preserved
loop-row-preserved g c =
    let S = g.S.Server in
    let old = S.seen c.args.self.now.server in
    let mid = c.loop-row.self in
    let new = c.next_row.new.self in
    let row = c.in-Ok-Some.row in
    let is : c.next_row.result ≡ Ok (Some row) = cc in
    let taken = subst (λ (r : Result (Option Values) Error). TakesRow (S.seen mid.server) (S.seen new.server) mid.status new.status r) is c.next_row.ensures in
    let behind = subst (λ (r : Result (Unit {0}) Error). MatchResult r (λ _. c.hold.new.rows.items ≡ c.loop-row.rows.items ++ row ∷ []) (λ e. e ≡ OutOfMemory)) c.in-Ok.is c.hold.ensures in
    (subst (λ (rows : List Values). HasRead old (S.seen new.server) rows) (sym behind) (read_more old (S.seen mid.server) (S.seen new.server) c.loop-row.rows.items row c.loop-row.invariant.0 taken.0), taken.1 ∙ c.loop-row.invariant.1)

pub returns-in-Err-hold : goal.returns-in-Err-hold
returns-in-Err-hold g c =
    let S = g.S.Server in
    let old = S.seen c.args.self.now.server in
    let mid = c.loop-row.self in
    let new = c.next_row.new.self in
    let row = c.in-Ok-Some.row in
    let is : c.next_row.result ≡ Ok (Some row) = cc in
    let taken = subst (λ (r : Result (Option Values) Error). TakesRow (S.seen mid.server) (S.seen new.server) mid.status new.status r) is c.next_row.ensures in
    let memory = subst (λ (r : Result (Unit {0}) Error). MatchResult r (λ _. c.hold.new.rows.items ≡ c.loop-row.rows.items ++ row ∷ []) (λ e. e ≡ OutOfMemory)) c.in-Err-hold.is c.hold.ensures in
    holds_memory old (S.seen new.server) c.args.self.now.status new.status (c.loop-row.rows.items ++ row ∷ []) c.in-Err-hold.e (read_more old (S.seen mid.server) (S.seen new.server) c.loop-row.rows.items row c.loop-row.invariant.0 taken.0) (taken.1 ∙ c.loop-row.invariant.1) memory

pub returns-in-Err : goal.returns-in-Err
returns-in-Err g c =
    let S = g.S.Server in
    let mid = c.loop-row.self in
    let new = c.next_row.new.self in
    let failed = subst (λ (r : Result (Option Values) Error). TakesRow (S.seen mid.server) (S.seen new.server) mid.status new.status r) c.in-Err.is c.next_row.ensures in
    holds_fail (S.seen c.args.self.now.server) (S.seen mid.server) (S.seen new.server) c.args.self.now.status mid.status new.status c.loop-row.rows.items c.loop-row.invariant.0 c.loop-row.invariant.1 c.in-Err.e failed
