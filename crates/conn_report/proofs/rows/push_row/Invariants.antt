use Rattle.std.proofs.Common.{◌≡◌, ◌++◌, take, map}
use Rattle.std.specs.List.{join_with_byte}
use Rattle.conn_report.specs.Report.{value_text}
use Rattle.conn_report.proofs.rows.push_row.Given as goal

-- the columns so far are written
abbrev pub invariant-loop-column : goal.invariant-loop-column
invariant-loop-column l = l.out.items ≡ l.initial.out.items ++ join_with_byte 44 (map value_text (take l.column l.row))
