use Rattle.std.proofs.Common.{refl}
use Rattle.std.specs.Ordering.{nat_cmp}
use Rattle.conn_script.specs.Plans.{compare_items, refused_attempt_key, refused_key, refused_row_key}
use Rattle.conn_script.proofs.Keys.{keys_more, keys_same, turned_number}
use Rattle.conn_script.proofs.RowCounts.{counts_same}
use Rattle.conn_script.proofs.draft.Draft.add_refused_attempt.Goals as goal

pub invariant_of-self-in-Ok : goal.invariant_of-self-in-Ok
invariant_of-self-in-Ok c = rw (c.in_ok-push.ensures.ok, c.refused_attempt_line.ensures) (
  keys_same compare_items refused_key c.self.inside.refused.keys c.self.inside.script.plan _ c.self.invariant.0 refl,
  keys_same compare_items refused_row_key c.self.inside.refused_rows.keys c.self.inside.script.plan _ c.self.invariant.1 refl,
  keys_more nat_cmp refused_attempt_key c.self.inside.refused_attempts.keys c.insert.new.self.keys c.self.inside.script.plan _ c.args.r.attempt turned_number c.self.invariant.2 refl c.in-Ok.ensures.updates.0,
  c.self.invariant.3,
  c.self.invariant.4,
  counts_same c.self.inside.rows c.self.inside.script.plan _ c.self.invariant.5 refl,
)
