use Rattle.conn_reading.proofs.SessionOnce.{session_once}
use Rattle.conn_reading.proofs.laws.statements_are_prepared_once.Goals as goal

pub returns : goal.returns
returns c = session_once
