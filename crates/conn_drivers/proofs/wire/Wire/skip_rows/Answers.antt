use Rattle.std.proofs.Common.{◌≡◌, ◌++◌, ◌∷◌, [], ◌∙◌, Option, Result, Ok, Some, subst}
use Rattle.conn_result.specs.declared.error.Error.{Error}
use Rattle.conn_model.specs.Armed.{Values}
use Rattle.conn_drivers.specs.Loading.{TakesRow}
use Rattle.conn_drivers.proofs.ReadSteps.{read_more, skips_fail}
use Rattle.conn_drivers.proofs.wire.Wire.skip_rows.Goals as goal

pub loop-e-preserved-in-Ok-Some : goal.loop-e-preserved-in-Ok-Some
loop-e-preserved-in-Ok-Some g c =
    let S = g.S.Server in
    let mid = c.loop-e.self in
    let new = c.next_row.new.self in
    let front = c.loop-e.invariant.0.0 in
    let is : c.next_row.result ≡ Ok (Some c.in-Ok-Some.field-0-0) = cc in
    let taken = subst (λ (r : Result (Option Values) Error). TakesRow (S.seen mid.server) (S.seen new.server) mid.status new.status r) is c.next_row.ensures in
    ((front ++ c.in-Ok-Some.field-0-0 ∷ [], read_more (S.seen c.args.self.now.server) (S.seen mid.server) (S.seen new.server) front c.in-Ok-Some.field-0-0 c.loop-e.invariant.0.1 taken.0), taken.1 ∙ c.loop-e.invariant.1)

pub returns-in-Err : goal.returns-in-Err
returns-in-Err g c =
    let S = g.S.Server in
    let mid = c.loop-e.self in
    let new = c.next_row.new.self in
    let failed = subst (λ (r : Result (Option Values) Error). TakesRow (S.seen mid.server) (S.seen new.server) mid.status new.status r) c.in-Err.is c.next_row.ensures in
    skips_fail (S.seen c.args.self.now.server) (S.seen mid.server) (S.seen new.server) c.args.self.now.status mid.status new.status c.loop-e.invariant.0.0 c.loop-e.invariant.0.1 c.loop-e.invariant.1 c.in-Err.e failed
