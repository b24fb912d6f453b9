use Rattle.std.proofs.Common.{◌≡◌, ◌∙◌, ◌-◌, ◌++◌, List, [], ◌∷◌, suc, length, Some, refl, ap, sym, arith}
use Rattle.std.specs.Prelude.{slice_get}
use Rattle.conn_model.specs.Armed.{Armed, armed_of}
use Rattle.conn_server.specs.RowTables.{armed_by}
use Rattle.conn_server.proofs.Grouping.{line-within}
use Rattle.conn_server.proofs.Tabling.{rows_at_end, rows_earlier}
use Rattle.conn_server.proofs.row_table.table_of.Goals as goal

pub loop-left-init : goal.loop-left-init
loop-left-init c = (omega arith, ap armed_by c.new-table.ensures ∙ sym (rows_at_end c.args.plan.now (length c.args.plan.now) refl))

pub loop-left-preserved : goal.loop-left-preserved
loop-left-preserved c =
    let plan = c.args.plan.now in
    let left = c.loop-left.left in
    let x = c.index-plan-left.result in
    let next : left ≡ suc (left - 1) = omega arith in
    let here : slice_get plan (left - 1) ≡ Some x = line-within plan (left - 1) x (omega arith) ∙ ap Some (sym c.index-plan-left.is) in
    (omega arith, c.in_ok-push_line.ensures ∙ ap (λ (a : List Armed). armed_of (x ∷ []) ++ a) c.loop-left.invariant.1 ∙ rows_earlier plan (left - 1) left x next here)
