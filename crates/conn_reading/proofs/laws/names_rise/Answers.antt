use Rattle.conn_reading.proofs.SessionLaws.{names_rise}
use Rattle.conn_reading.proofs.laws.names_rise.Goals as goal

pub returns : goal.returns
returns c = names_rise
