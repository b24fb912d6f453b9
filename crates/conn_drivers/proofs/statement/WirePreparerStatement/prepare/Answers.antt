use Rattle.std.proofs.Common.{◌≡◌, Bool, false, sym, subst}
use Rattle.conn_drivers.specs.Prepares.{WirePreparesBy, sends_none}
use Rattle.conn_drivers.proofs.Heard.{sends_prepare}
use Rattle.conn_drivers.proofs.statement.WirePreparerStatement.prepare.Goals as goal

pub returns-clause-does : goal.returns-clause-does
returns-clause-does g c =
    let S = g.S.Server in
    let old = S.seen c.args.self.now.server in
    let new = S.seen c.follow.new.self.server in
    let r = c.prepare-prepared.result in
    let sends : sends_none old.dialect c.args.is_cached ≡ false = cc in
    subst (λ (b : Bool). WirePreparesBy b old.dialect S.is_honest c.args.sql.now c.args.is_cached old new c.args.self.now.status c.follow.new.self.status c.statement_by.result) (sym sends)
    (sends_prepare S.is_honest c.args.sql.now c.args.is_cached old (S.seen c.prepare-prepared.new.self) new c.args.self.now.status c.follow.new.self.status r c.statement_by.result c.follow.ensures.same
    (λ e. g.met.S.Server.honesty e c.follow.new.self.server) (rw c.name_of.ensures at c.prepare-prepared.ensures) c.statement_by.ensures (cc))
