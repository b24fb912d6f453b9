use Rattle.conn_script.proofs.Integers.{below_is}
use Rattle.conn_script.proofs.values.below_zero.Goals as goal

pub returns : goal.returns
returns c = below_is c.args.size c.checked_sub_unsigned.result c.checked_sub_unsigned.ensures c.if-size-eq0.false
