use Rattle.std.proofs.Common.{◌≡◌, refl, subst, Option, None, Some, Result, Ok, Err}
use Rattle.conn_result.specs.declared.error.Error.{Error}
use Rattle.conn_result.specs.declared.error.Error.TheVariants.{NotFound}
use Rattle.conn_model.specs.Armed.{Values}
use Rattle.conn_drivers.specs.Loading.{TakesRow}
use Rattle.conn_drivers.proofs.GatherSteps.{one_fails, one_given, one_none}
use Rattle.conn_drivers.proofs.gather.first_alone.Goals as goal

pub returns-in-Ok-Some-clause-makes : goal.returns-in-Ok-Some-clause-makes
returns-in-Ok-Some-clause-makes g c =
    let S = g.S.Server in
    let reads = g.R.RowReader.reads c.args.reader.now in
    let old = c.args.wire.now in
    let new = c.next_row.new.self in
    let row = c.in-Ok-Some.row in
    let is : c.next_row.result ≡ Ok (Some row) = cc in
    let taken = subst (λ (r : Result (Option Values) Error). TakesRow (S.seen old.server) (S.seen new.server) old.status new.status r) is c.next_row.ensures in
    one_given reads (S.seen old.server) (S.seen new.server) old.status new.status None c.read.result row taken.0 taken.1 refl c.read.ensures.answers

pub returns-in-Ok-None-clause-makes : goal.returns-in-Ok-None-clause-makes
returns-in-Ok-None-clause-makes g c =
    let S = g.S.Server in
    let reads = g.R.RowReader.reads c.args.reader.now in
    let old = c.args.wire.now in
    let new = c.next_row.new.self in
    let is : c.next_row.result ≡ Ok None = cc in
    let taken = subst (λ (r : Result (Option Values) Error). TakesRow (S.seen old.server) (S.seen new.server) old.status new.status r) is c.next_row.ensures in
    one_none reads (S.seen old.server) (S.seen new.server) old.status new.status None (Err NotFound) taken.0 taken.1 refl refl

pub returns-in-Err-clause-makes : goal.returns-in-Err-clause-makes
returns-in-Err-clause-makes g c =
    let S = g.S.Server in
    let reads = g.R.RowReader.reads c.args.reader.now in
    let old = c.args.wire.now in
    let new = c.next_row.new.self in
    let failed = subst (λ (r : Result (Option Values) Error). TakesRow (S.seen old.server) (S.seen new.server) old.status new.status r) c.in-Err.is c.next_row.ensures in
    one_fails reads (S.seen old.server) (S.seen new.server) old.status new.status c.row_error.result (Err c.in-Err.e) c.in-Err.e failed c.row_error.ensures refl
