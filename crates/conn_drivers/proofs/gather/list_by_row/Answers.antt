use Rattle.std.proofs.Common.{◌≡◌, ◌∙◌, sym, subst, None, Result}
use Rattle.conn_result.specs.declared.error.Error.{Error}
use Rattle.conn_drivers.specs.Loaded.{listed}
use Rattle.conn_drivers.specs.Reading.{SkipsRows}
use Rattle.conn_drivers.proofs.GatherSteps.{not_some, skipped, skipped_error}
use Rattle.conn_drivers.proofs.gather.list_by_row.Goals as goal

pub returns-in-Ok : goal.returns-in-Ok
returns-in-Ok g c =
    let S = g.S.Server in
    let reads = g.R.RowReader.reads c.args.reader.now in
    let read = c.read_rows-read in
    let skip = c.skip_rows in
    let mid = S.seen read.new.self.server in
    let new = S.seen skip.new.self.server in
    let none : read.result.error ≡ None = not_some read.result.error (sym c.is_some.ensures ∙ c.if-is_some.false) in
    let went = subst (λ (r : Result (Unit {0}) Error). SkipsRows mid new read.new.self.status skip.new.self.status r) c.in-Ok.is skip.ensures in
    skipped reads (S.seen c.args.wire.now.server) mid new c.args.wire.now.status read.new.self.status skip.new.self.status read.result.error (listed read.result.reply) none read.ensures went

pub returns-in-Err : goal.returns-in-Err
returns-in-Err g c =
    let S = g.S.Server in
    let reads = g.R.RowReader.reads c.args.reader.now in
    let read = c.read_rows-read in
    let skip = c.skip_rows in
    let mid = S.seen read.new.self.server in
    let new = S.seen skip.new.self.server in
    let none : read.result.error ≡ None = not_some read.result.error (sym c.is_some.ensures ∙ c.if-is_some.false) in
    let went = subst (λ (r : Result (Unit {0}) Error). SkipsRows mid new read.new.self.status skip.new.self.status r) c.in-Err.is skip.ensures in
    skipped_error reads (S.seen c.args.wire.now.server) mid new c.args.wire.now.status read.new.self.status skip.new.self.status read.result.error c.row_error.result (listed read.result.reply) c.in-Err.e none read.ensures went c.row_error.ensures
