use Rattle.std.proofs.Common.{rules, ◌∙◌, ap, List, Some}
use Rattle.std.specs.Option.{option_copied}
use Rattle.conn_model.specs.declared.value.Bind.{Bind}
use Rattle.conn_script.specs.Binds.{bind_named, bind_series}
use Rattle.conn_script.proofs.Reading.{behind, listed_bad, listed_last, listed_more}
use Rattle.conn_script.proofs.Splits.{split_at-shorter}
use Rattle.conn_script.proofs.binds.bind_series.Goals as goal

pub returns-in_default : goal.returns-in_default
returns-in_default c =
    listed_bad bind_named 44 c.loop-binds.binds c.loop-binds.rest.now c.cut_at.result.0.now (option_copied c.cut_at.result.1) c.cut_at.ensures (rw c.in_default.is at c.in_ok-bind.ensures)
    ∙ c.loop-binds.invariant.1

pub returns-in_default-more : goal.returns-in_default-more
returns-in_default-more c =
    ap Some c.in_ok-push.ensures.ok
    ∙ listed_last bind_named 44 c.loop-binds.binds c.loop-binds.rest.now c.cut_at.result.0.now c.in-Some.bind (rw c.in_default-more.is at c.cut_at.ensures) (rw c.in-Some.is at c.in_ok-bind.ensures)
    ∙ c.loop-binds.invariant.1

pub loop-binds-smaller : goal.loop-binds-smaller
loop-binds-smaller c = split_at-shorter 44 c.loop-binds.rest.now c.cut_at.result.0.now c.in-Some-more.more.now (rw c.in-Some-more.is at c.cut_at.ensures)

pub loop-binds-preserved : goal.loop-binds-preserved
loop-binds-preserved c = (
  search rules,
  ap (λ (bs : List Bind). behind bs (bind_series c.in-Some-more.more.now)) c.in_ok-push.ensures.ok
      ∙ listed_more bind_named 44 c.loop-binds.binds c.loop-binds.rest.now c.cut_at.result.0.now c.in-Some-more.more.now c.in-Some.bind (rw c.in-Some-more.is at c.cut_at.ensures) (rw c.in-Some.is at c.in_ok-bind.ensures)
      ∙ c.loop-binds.invariant.1,
)
