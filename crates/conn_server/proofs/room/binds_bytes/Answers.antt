use Rattle.std.proofs.Common.{◌+◌, arith}
use Rattle.std.proofs.lemmas.Grind.{common_steps}
use Rattle.std.proofs.lemmas.List.Sums.{sum_by-take-le}
use Rattle.conn_model.specs.Statements.{bind_bytes}
use Rattle.conn_server.proofs.room.binds_bytes.Goals as goal

pub overflow_add-bytes-in-loop-bind : goal.overflow_add-bytes-in-loop-bind
overflow_add-bytes-in-loop-bind c = grind (arith, common_steps, sum_by-take-le bind_bytes c.args.binds.now (c.loop-bind.bind-index + 1))
