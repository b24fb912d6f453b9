use Rattle.std.proofs.Common.{◌∙◌, Some, ap}
use Rattle.std.specs.Prelude.{nat_eq, ◌&&◌, if◌then◌else◌}
use Rattle.conn_server.specs.Ordered.{OrderList, row_order_of}
use Rattle.conn_server.proofs.orders.Orders.put_row.Goals as goal

pub returns-clause-rows : goal.returns-clause-rows
returns-clause-rows c = λ i r. c.in-Ok.ensures.updates.0 (i, r)
    ∙ ap (λ (o : OrderList). if nat_eq c.args.item i && nat_eq c.args.row r then Some c.args.order else row_order_of o i r) c.self.view_is
