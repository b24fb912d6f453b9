use Rattle.std.proofs.Common.{Ok, Err, refl, sym, rules}
use Rattle.conn_manager.proofs.block.run_begun.Goals as goal

-- the closure answered Ok, and so did the commit
pub returns-in_ok-commit-in-Ok : goal.returns-in_ok-commit-in-Ok
returns-in_ok-commit-in-Ok g c = record {
  after = c.f.new.arg2;
  answer = Ok c.in-Ok.v;
  calls = record { shown = _; shows = refl; left = _; met = c.in-Ok.ensures; leaves = refl };
  closes = (Ok tt, (c.in_ok-commit-in-Ok.ensures.tells, c.in_ok-commit-in-Ok.ensures.cache), refl);
}

-- the closure answered Ok, and the commit an error
pub returns-in_err-commit-in-Ok : goal.returns-in_err-commit-in-Ok
returns-in_err-commit-in-Ok g c = record {
  after = c.f.new.arg2;
  answer = Ok c.in-Ok.v;
  calls = record { shown = _; shows = refl; left = _; met = c.in-Ok.ensures; leaves = refl };
  closes = (Err c.in_err-commit-in-Ok.field-0.0, (c.in_err-commit-in-Ok.ensures.tells, c.in_err-commit-in-Ok.ensures.cache), search rules);
}

-- the closure answered an error, and the rollback Ok
pub returns-in-Ok-rollback : goal.returns-in-Ok-rollback
returns-in-Ok-rollback g c = record {
  after = c.f.new.arg2;
  answer = Err c.in-Err.e;
  calls = record { shown = _; shows = refl; left = _; met = c.in-Err.ensures; leaves = refl };
  closes = (Ok tt, (c.in-Ok-rollback.ensures.tells, c.in-Ok-rollback.ensures.cache), refl);
}

-- the closure answered an error, and the rollback one in its place
pub returns-then-includes : goal.returns-then-includes
returns-then-includes g c = record {
  after = c.f.new.arg2;
  answer = Err c.in-Err.e;
  calls = record { shown = _; shows = refl; left = _; met = c.in-Err.ensures; leaves = refl };
  closes = (Err c.in-Err-rollback.r, (c.in-Err-rollback.ensures.tells, c.in-Err-rollback.ensures.cache), rw (sym c.if-includes.ensures) c.from.ensures);
}

-- the closure answered an error, and the rollback one that is not answered
pub returns-else-includes : goal.returns-else-includes
returns-else-includes g c = record {
  after = c.f.new.arg2;
  answer = Err c.in-Err.e;
  calls = record { shown = _; shows = refl; left = _; met = c.in-Err.ensures; leaves = refl };
  closes = (Err c.in-Err-rollback.r, (c.in-Err-rollback.ensures.tells, c.in-Err-rollback.ensures.cache), rw (sym c.if-includes.ensures) refl);
}
