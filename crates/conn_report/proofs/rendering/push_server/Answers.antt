use Rattle.conn_report.proofs.Parts.{one_written}
use Rattle.conn_report.proofs.rendering.push_server.Goals as goal

pub loop-place-preserved : goal.loop-place-preserved
loop-place-preserved c = one_written _ _ _ c.in-Some.writes c.loop-place.place c.bytes.result.now c.bytes.ensures c.loop-place.invariant c.in_ok-push_write.ensures
