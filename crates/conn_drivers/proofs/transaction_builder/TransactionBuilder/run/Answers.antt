use Rattle.std.proofs.Common.{◌∙◌}
use Rattle.conn_drivers.proofs.transaction_builder.TransactionBuilder.run.Goals as goal

pub returns-clause-transacts : goal.returns-clause-transacts
returns-clause-transacts g c = rw (c.as_str.ensures.value ∙ c.sql-begin.ensures) at c.transaction_sql.ensures.transacts
