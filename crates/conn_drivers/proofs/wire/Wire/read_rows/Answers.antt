use Rattle.std.proofs.Common.{◌≡◌, Option, Result, Ok, Some, subst}
use Rattle.conn_result.specs.declared.error.Error.{Error}
use Rattle.conn_model.specs.Armed.{Values}
use Rattle.conn_drivers.specs.Loading.{TakesRow}
use Rattle.conn_drivers.specs.Reading.{ReadsOnto}
use Rattle.conn_drivers.proofs.ReadSteps.{reads_fail, reads_fault, reads_more}
use Rattle.conn_drivers.proofs.wire.Wire.read_rows.Goals as goal

pub loop-row-preserved : goal.loop-row-preserved
loop-row-preserved g c =
    let S = g.S.Server in
    let reads = g.R.RowReader.reads c.args.reader.now in
    let mid = c.loop-row.self in
    let new = c.next_row.new.self in
    let row = c.in-Ok-Some.row in
    let is : c.next_row.result ≡ Ok (Some row) = cc in
    let taken = subst (λ (r : Result (Option Values) Error). TakesRow (S.seen mid.server) (S.seen new.server) mid.status new.status r) is c.next_row.ensures in
    let puts = subst (λ (r : Result (Unit {0}) Error). ReadsOnto (reads row) c.loop-row.values.items c.read_onto.new.values.items r) c.in-Ok.is c.read_onto.ensures in
    reads_more reads (S.seen c.args.self.now.server) (S.seen mid.server) (S.seen new.server) c.args.self.now.status mid.status new.status c.loop-row.values.items c.loop-row.invariant row c.read_onto.new.values.items taken.0 taken.1 puts

pub returns-in-Err-read_onto : goal.returns-in-Err-read_onto
returns-in-Err-read_onto g c =
    let S = g.S.Server in
    let reads = g.R.RowReader.reads c.args.reader.now in
    let mid = c.loop-row.self in
    let new = c.next_row.new.self in
    let row = c.in-Ok-Some.row in
    let is : c.next_row.result ≡ Ok (Some row) = cc in
    let taken = subst (λ (r : Result (Option Values) Error). TakesRow (S.seen mid.server) (S.seen new.server) mid.status new.status r) is c.next_row.ensures in
    let fails = subst (λ (r : Result (Unit {0}) Error). ReadsOnto (reads row) c.loop-row.values.items c.read_onto.new.values.items r) c.in-Err-read_onto.is c.read_onto.ensures in
    reads_fault reads (S.seen c.args.self.now.server) (S.seen mid.server) (S.seen new.server) c.args.self.now.status mid.status new.status c.loop-row.values.items c.loop-row.invariant row c.in-Err-read_onto.e taken.0 taken.1 fails

pub returns-in-Err : goal.returns-in-Err
returns-in-Err g c =
    let S = g.S.Server in
    let reads = g.R.RowReader.reads c.args.reader.now in
    let mid = c.loop-row.self in
    let new = c.next_row.new.self in
    let failed = subst (λ (r : Result (Option Values) Error). TakesRow (S.seen mid.server) (S.seen new.server) mid.status new.status r) c.in-Err.is c.next_row.ensures in
    reads_fail reads (S.seen c.args.self.now.server) (S.seen mid.server) (S.seen new.server) c.args.self.now.status mid.status new.status c.loop-row.values.items c.loop-row.invariant c.in-Err.e c.row_error.result c.row_error.ensures failed
