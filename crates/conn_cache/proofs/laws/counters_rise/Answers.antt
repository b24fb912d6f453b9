use Rattle.conn_cache.proofs.Turning.{rising}
use Rattle.conn_cache.proofs.laws.counters_rise.Goals as goal

pub returns : goal.returns
returns c = λ r turns. rising turns r
