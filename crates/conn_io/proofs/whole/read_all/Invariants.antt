use Rattle.std.proofs.Common.{◌≡◌, ◌≤◌, ◌-◌, vec_len}
use Rattle.std.specs.Io.KnownBytes.{Consumes}
use Rattle.conn_io.proofs.whole.read_all.Given as goal

abbrev pub invariant-loop-place : goal.invariant-loop-place
invariant-loop-place g l = record {
  taken : Consumes (g.I.Source.left l.fn.source) (g.I.Source.left l.source) l.bytes.items;
  count : vec_len l.bytes ≤ l.most;
  unfailed : g.I.Source.faults l.source ≡ g.I.Source.faults l.fn.source;
}

abbrev pub decreases-loop-place : goal.decreases-loop-place
decreases-loop-place g l = l.most - vec_len l.bytes
