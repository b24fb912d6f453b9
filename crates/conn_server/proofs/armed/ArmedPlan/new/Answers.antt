use Rattle.std.proofs.Common.{◌≡◌, List, sym, subst}
use Rattle.conn_model.specs.declared.plan.PlanLine.{PlanLine}
use Rattle.conn_server.specs.Grouped.{IsArmed}
use Rattle.conn_server.proofs.armed.ArmedPlan.new.Goals as goal

pub invariant_of-result : goal.invariant_of-result
invariant_of-result c =
    let same : c.in_ok-lines.lines ≡ c.args.plan.now = c.in_ok-lines.ensures in
    subst (λ (ls : List PlanLine). IsArmed ls c.in_ok-refused.refused c.link_all.new.last c.in_ok-previous.previous.items c.in_ok-rows.rows) (sym same) (record {
      refuses = c.in_ok-refused.ensures.refuses;
      in_range = c.in_ok-refused.ensures.in_range;
      grouped = c.in_ok-previous.ensures;
      rows_are = c.in_ok-rows.ensures;
    })
