use Rattle.std.proofs.Common.{◌≡◌, ap}
use Rattle.conn_drivers.specs.Raws.{raw_of}
use Rattle.conn_drivers.proofs.any.AnyConnectionLoadConnection.get_result_by.Goals as goal

pub returns-in-Pg-clause-loads : goal.returns-in-Pg-clause-loads
returns-in-Pg-clause-loads g c = let e : raw_of c.args.self.now ≡ c.in-Pg.c.raw = ap raw_of c.in-Pg.is in rw e c.get_result_by.ensures.loads

pub returns-in-Pg-clause-cause : goal.returns-in-Pg-clause-cause
returns-in-Pg-clause-cause g c = let e : raw_of c.args.self.now ≡ c.in-Pg.c.raw = ap raw_of c.in-Pg.is in rw e c.get_result_by.ensures.cause

pub returns-in-Pg-clause-asks : goal.returns-in-Pg-clause-asks
returns-in-Pg-clause-asks g c = let e : raw_of c.args.self.now ≡ c.in-Pg.c.raw = ap raw_of c.in-Pg.is in rw e c.get_result_by.ensures.asks

pub returns-in-Mysql-clause-loads : goal.returns-in-Mysql-clause-loads
returns-in-Mysql-clause-loads g c = let e : raw_of c.args.self.now ≡ c.in-Mysql.c.raw = ap raw_of c.in-Mysql.is in rw e c.get_result_by-in-Mysql.ensures.loads

pub returns-in-Mysql-clause-cause : goal.returns-in-Mysql-clause-cause
returns-in-Mysql-clause-cause g c = let e : raw_of c.args.self.now ≡ c.in-Mysql.c.raw = ap raw_of c.in-Mysql.is in rw e c.get_result_by-in-Mysql.ensures.cause

pub returns-in-Mysql-clause-asks : goal.returns-in-Mysql-clause-asks
returns-in-Mysql-clause-asks g c = let e : raw_of c.args.self.now ≡ c.in-Mysql.c.raw = ap raw_of c.in-Mysql.is in rw e c.get_result_by-in-Mysql.ensures.asks

pub returns-in-Sqlite-clause-loads : goal.returns-in-Sqlite-clause-loads
returns-in-Sqlite-clause-loads g c = let e : raw_of c.args.self.now ≡ c.in-Sqlite.c.raw = ap raw_of c.in-Sqlite.is in rw e c.get_result_by-in-Sqlite.ensures.loads

pub returns-in-Sqlite-clause-cause : goal.returns-in-Sqlite-clause-cause
returns-in-Sqlite-clause-cause g c = let e : raw_of c.args.self.now ≡ c.in-Sqlite.c.raw = ap raw_of c.in-Sqlite.is in rw e c.get_result_by-in-Sqlite.ensures.cause

pub returns-in-Sqlite-clause-asks : goal.returns-in-Sqlite-clause-asks
returns-in-Sqlite-clause-asks g c = let e : raw_of c.args.self.now ≡ c.in-Sqlite.c.raw = ap raw_of c.in-Sqlite.is in rw e c.get_result_by-in-Sqlite.ensures.asks
