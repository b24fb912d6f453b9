use Rattle.std.proofs.Common.{rules, ◌∙◌, ap, List, Some}
use Rattle.std.specs.Option.{option_copied}
use Rattle.conn_model.specs.declared.value.Value.{Value}
use Rattle.conn_script.specs.Values.{value_named, value_series}
use Rattle.conn_script.proofs.Reading.{behind, listed_bad, listed_last, listed_more}
use Rattle.conn_script.proofs.Splits.{split_at-shorter}
use Rattle.conn_script.proofs.values.value_series.Goals as goal

pub returns-in_default : goal.returns-in_default
returns-in_default c =
    listed_bad value_named 44 c.loop-values.values c.loop-values.rest.now c.cut_at.result.0.now (option_copied c.cut_at.result.1) c.cut_at.ensures (rw c.in_default.is at c.in_ok-value.ensures)
    ∙ c.loop-values.invariant.1

pub returns-in_default-more : goal.returns-in_default-more
returns-in_default-more c =
    ap Some c.in_ok-push.ensures.ok
    ∙ listed_last value_named 44 c.loop-values.values c.loop-values.rest.now c.cut_at.result.0.now c.in-Some.value (rw c.in_default-more.is at c.cut_at.ensures) (rw c.in-Some.is at c.in_ok-value.ensures)
    ∙ c.loop-values.invariant.1

pub loop-values-smaller : goal.loop-values-smaller
loop-values-smaller c = split_at-shorter 44 c.loop-values.rest.now c.cut_at.result.0.now c.in-Some-more.more.now (rw c.in-Some-more.is at c.cut_at.ensures)

pub loop-values-preserved : goal.loop-values-preserved
loop-values-preserved c = (
  search rules,
  ap (λ (bs : List Value). behind bs (value_series c.in-Some-more.more.now)) c.in_ok-push.ensures.ok
      ∙ listed_more value_named 44 c.loop-values.values c.loop-values.rest.now c.cut_at.result.0.now c.in-Some-more.more.now c.in-Some.value (rw c.in-Some-more.is at c.cut_at.ensures) (rw c.in-Some.is at c.in_ok-value.ensures)
      ∙ c.loop-values.invariant.1,
)
