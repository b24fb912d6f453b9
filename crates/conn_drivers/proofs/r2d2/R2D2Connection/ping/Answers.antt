use Rattle.conn_drivers.proofs.Querying.{pings_as}
use Rattle.conn_drivers.proofs.r2d2.R2D2Connection.ping.Goals as goal

pub returns-clause-pings : goal.returns-clause-pings
returns-clause-pings g c = pings_as _ _ _ c.execute_returning_count.result c.without_count.result c.without_count.ensures c.execute_returning_count.ensures.queries
