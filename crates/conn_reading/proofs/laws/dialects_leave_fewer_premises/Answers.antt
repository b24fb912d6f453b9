use Rattle.conn_reading.proofs.Premises.{premises_left}
use Rattle.conn_reading.proofs.laws.dialects_leave_fewer_premises.Goals as goal

pub returns : goal.returns
returns c = premises_left
