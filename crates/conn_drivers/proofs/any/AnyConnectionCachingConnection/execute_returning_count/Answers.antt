use Rattle.std.proofs.Common.{◌≡◌, ap}
use Rattle.conn_drivers.specs.Raws.{raw_of}
use Rattle.conn_drivers.proofs.any.AnyConnectionCachingConnection.execute_returning_count.Goals as goal

pub returns-in-Pg-clause-queries : goal.returns-in-Pg-clause-queries
returns-in-Pg-clause-queries g c = let e : raw_of c.args.self.now ≡ c.in-Pg.c.raw = ap raw_of c.in-Pg.is in rw e c.execute_returning_count.ensures.queries

pub returns-in-Mysql-clause-queries : goal.returns-in-Mysql-clause-queries
returns-in-Mysql-clause-queries g c = let e : raw_of c.args.self.now ≡ c.in-Mysql.c.raw = ap raw_of c.in-Mysql.is in rw e c.execute_returning_count-in-Mysql.ensures.queries

pub returns-in-Sqlite-clause-queries : goal.returns-in-Sqlite-clause-queries
returns-in-Sqlite-clause-queries g c = let e : raw_of c.args.self.now ≡ c.in-Sqlite.c.raw = ap raw_of c.in-Sqlite.is in rw e c.execute_returning_count-in-Sqlite.ensures.queries
