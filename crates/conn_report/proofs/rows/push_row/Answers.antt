use Rattle.conn_report.proofs.RowTexts.{column_written}
use Rattle.conn_report.proofs.rows.push_row.Goals as goal

pub loop-column-preserved : goal.loop-column-preserved
loop-column-preserved c =
    column_written _ _ _ c.args.row.now c.loop-column.column c.value_at.result.now c.value_at.ensures c.loop-column.invariant c.in_ok-push_column.ensures
