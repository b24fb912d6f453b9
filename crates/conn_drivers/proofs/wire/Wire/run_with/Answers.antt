use Rattle.std.proofs.Common.{◌≡◌}
use Rattle.std.specs.Result.{result_err}
use Rattle.conn_model.specs.Statements.{text_of}
use Rattle.conn_manager.specs.Statuses.{retold}
use Rattle.conn_drivers.proofs.Heard.{begins_if, count_cause, heard_count}
use Rattle.conn_drivers.proofs.wire.Wire.run_with.Goals as goal

pub returns-clause-hears : goal.returns-clause-hears
returns-clause-hears g c =
    let S = g.S.Server in
    let old = S.seen c.args.self.now.server in
    let mid = S.seen c.run-ran.new.self in
    let s = c.args.self.now.status in
    let made : c.follow.new.self.status ≡ retold mid.dialect (result_err c.run-ran.result) mid.told s = cc in
    heard_count S.is_honest old mid (S.seen c.follow.new.self.server) s c.follow.new.self.status c.follow.ensures.same (λ e. g.met.S.Server.honesty e c.follow.new.self.server)
    (text_of old.open_statements c.args.source) c.args.binds.now c.run-ran.result c.count_by.result c.run-ran.ensures c.count_by.ensures made

pub returns-clause-cause : goal.returns-clause-cause
returns-clause-cause g c =
    let S = g.S.Server in
    let old = S.seen c.args.self.now.server in
    count_cause (text_of old.open_statements c.args.source) c.args.binds.now old (S.seen c.run-ran.new.self) (S.seen c.follow.new.self.server) c.run-ran.result c.count_by.result c.count_by.ensures c.run-ran.ensures c.follow.ensures.same

pub returns-clause-begins : goal.returns-clause-begins
returns-clause-begins g c =
    let S = g.S.Server in
    let old = S.seen c.args.self.now.server in
    begins_if S.is_honest (text_of old.open_statements c.args.source) c.args.binds.now old (S.seen c.run-ran.new.self) (S.seen c.follow.new.self.server) c.run-ran.result c.count_by.result c.count_by.ensures c.run-ran.ensures c.follow.ensures.same (λ e. g.met.S.Server.honesty e c.follow.new.self.server)
