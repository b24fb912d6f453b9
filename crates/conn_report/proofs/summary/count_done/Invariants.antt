use Rattle.std.proofs.Common.{◌≡◌, take}
use Rattle.std.specs.Prelude.{count_by}
use Rattle.conn_report.specs.Summary.{is_done}
use Rattle.conn_report.specs.declared.entry.Entry.{Entry}
use Rattle.conn_report.proofs.summary.count_done.Given as goal

abbrev pub invariant-loop-entry : goal.invariant-loop-entry
invariant-loop-entry l = l.count ≡ count_by (λ (e : Entry). is_done e.reply) (take l.entry-index l.entries)
