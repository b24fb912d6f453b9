use Rattle.conn_cache.proofs.Turning.{found_later}
use Rattle.conn_cache.proofs.laws.a_kept_statement_is_found.Goals as goal

pub returns : goal.returns
returns c = found_later
