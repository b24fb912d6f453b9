use Rattle.std.proofs.Common.{◌∙◌, arith}
use Rattle.std.proofs.lemmas.List.{take_rest, length-drop}
use Rattle.conn_io.proofs.Joins.{appends_more}
use Rattle.conn_io.proofs.whole.write_all.Goals as goal

pub loop-at-preserved : goal.loop-at-preserved
loop-at-preserved g c = record {
  added = appends_more _ _ _ c.in_ok-at.field-0 c.loop-at.at c.args.bytes.now _ c.loop-at.invariant.added c.in_ok-at.ensures.adds (take_rest c.args.bytes.now c.loop-at.at);
  within = omega (arith, c.in_ok-at.ensures.count, c.loop-at-test.true, simp (take_rest, length-drop) at c.in_ok-at.ensures.count);
  unfailed = c.in_ok-at.ensures.cause.unfailed ∙ c.loop-at.invariant.unfailed;
}
