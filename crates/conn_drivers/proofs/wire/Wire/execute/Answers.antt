use Rattle.std.proofs.Common.{◌≡◌, rules, refl}
use Rattle.conn_model.specs.declared.item.Dialect.TheVariants.{Pg}
use Rattle.conn_drivers.proofs.Executed.{asks_at_once}
use Rattle.conn_drivers.proofs.wire.Wire.execute.Goals as goal

pub returns-in-Pg : goal.returns-in-Pg
returns-in-Pg g c =
    let S = g.S.Server in
    let old = S.seen c.args.self.now.server in
    let is : old.dialect ≡ Pg = search rules in
    let ran = c.run.ensures in
    asks_at_once S.is_honest c.args.text.now c.args.text.now old (S.seen c.run.new.self.server) c.args.self.now.status c.run.new.self.status c.run.result is refl ran.hears ran.cause ran.open ran.item_room ran.byte_room
