use Rattle.std.proofs.Common.{inr, refl}
use Rattle.conn_manager.proofs.block.test_transaction.Goals as goal

pub returns : goal.returns
returns g c = inr (record {
  before = c.begin.new.conn;
  after = c.f-answer.new.arg2;
  reply = c.rollback.result;
  begins = (c.in_ok-begin.ensures.tells, c.in_ok-begin.ensures.cache);
  calls = record { shown = _; shows = refl; left = _; met = c.f-answer.ensures; leaves = refl };
  closes = (c.rollback.ensures.tells, c.rollback.ensures.cache);
})
