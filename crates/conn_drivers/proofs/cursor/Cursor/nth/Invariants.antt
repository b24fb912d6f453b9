use Rattle.std.proofs.Common.{◌≡◌, ◌+◌}
use Rattle.std.specs.Prelude.{drop, slice_get}
use Rattle.conn_drivers.proofs.cursor.Cursor.nth.Given as goal

abbrev pub invariant-loop-left : goal.invariant-loop-left
invariant-loop-left l = (drop (l.left + 1) l.self ≡ drop (l.fn.skipped + 1) l.fn.self) × (slice_get l.self l.left ≡ slice_get l.fn.self l.fn.skipped)

abbrev pub decreases-loop-left : goal.decreases-loop-left
decreases-loop-left l = l.left
