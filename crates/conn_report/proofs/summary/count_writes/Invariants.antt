use Rattle.std.proofs.Common.{◌≡◌, take}
use Rattle.std.specs.Prelude.{sum_by}
use Rattle.conn_report.specs.Summary.{writes_told}
use Rattle.conn_report.proofs.summary.count_writes.Given as goal

abbrev pub invariant-loop-writes : goal.invariant-loop-writes
invariant-loop-writes l = l.count ≡ sum_by writes_told (take l.writes-index l.servers)
