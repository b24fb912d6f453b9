use Rattle.std.proofs.Common.{refl}
use Rattle.std.specs.Ordering.{nat_cmp}
use Rattle.conn_script.specs.Plans.{compare_items, refused_attempt_key, refused_key, refused_row_key}
use Rattle.conn_script.proofs.Keys.{keys_more, keys_same, turned_item}
use Rattle.conn_script.proofs.RowCounts.{counts_same}
use Rattle.conn_script.proofs.draft.Draft.add_refused_row.Goals as goal

pub invariant_of-self-in-Ok : goal.invariant_of-self-in-Ok
invariant_of-self-in-Ok c = rw (c.in_ok-push.ensures.ok, c.refused_row_line.ensures) (
  keys_same compare_items refused_key c.self.inside.refused.keys c.self.inside.script.plan _ c.self.invariant.0 refl,
  keys_more compare_items refused_row_key c.self.inside.refused_rows.keys c.insert.new.self.keys c.self.inside.script.plan _ (c.args.r.server, c.args.r.item) turned_item c.self.invariant.1 refl c.in-Ok.ensures.updates.0,
  keys_same nat_cmp refused_attempt_key c.self.inside.refused_attempts.keys c.self.inside.script.plan _ c.self.invariant.2 refl,
  c.self.invariant.3,
  c.self.invariant.4,
  counts_same c.self.inside.rows c.self.inside.script.plan _ c.self.invariant.5 refl,
)
