use Rattle.std.proofs.Common.{◌≡◌, ◌∙◌, ℕ, List, length, cond, Option, Some, refl, ap, sym}
use Rattle.std.specs.Ordering.{nat_cmp}
use Rattle.conn_model.specs.Armed.{armed_of, rows_of}
use Rattle.conn_model.specs.Classes.{same_text}
use Rattle.conn_script.specs.Drafts.{Draft}
use Rattle.conn_script.specs.Plans.{compare_items, refused_attempt_key, refused_key, refused_row_key}
use Rattle.conn_script.specs.RowCounts.{count_with_row, row_count_of}
use Rattle.conn_script.specs.Tables.{value_at}
use Rattle.conn_script.specs.declared.row_counts.RowCount.{RowCount}
use Rattle.conn_script.proofs.Keys.{keys_same}
use Rattle.conn_script.proofs.RowCounts.{counts_more}
use Rattle.conn_script.proofs.draft.Draft.add_row.Goals as goal

pub invariant_of-self-2 : goal.invariant_of-self-2
invariant_of-self-2 c =
    let text = c.in-Some.text.now in
    let before = c.reserve.new.self in
    let counts = λ (d : Draft). row_count_of (rows_of (armed_of d.script.plan) text) in
    let count : c.count_with_row.result ≡ count_with_row (row_count_of (rows_of (armed_of c.self.inside.script.plan) text)) (length c.args.r.row) =
    c.count_with_row.ensures
    ∙ ap (λ (o : Option RowCount). count_with_row o c.len-values.result) (c.count_of-count.ensures ∙ sym (ap counts c.self.view_is))
    ∙ ap (λ (n : ℕ). count_with_row (row_count_of (rows_of (armed_of c.self.inside.script.plan) text)) n) c.len-values.ensures in (
      rw c.in_ok-push.ensures.ok (keys_same compare_items refused_key c.self.inside.refused.keys c.self.inside.script.plan _ c.self.invariant.0 refl),
      rw c.in_ok-push.ensures.ok (keys_same compare_items refused_row_key c.self.inside.refused_rows.keys c.self.inside.script.plan _ c.self.invariant.1 refl),
      rw c.in_ok-push.ensures.ok (keys_same nat_cmp refused_attempt_key c.self.inside.refused_attempts.keys c.self.inside.script.plan _ c.self.invariant.2 refl),
      c.self.invariant.3,
      c.self.invariant.4,
      rw (c.in_ok-push.ensures.ok, c.in_ok-new.ensures)
          (counts_more before c.put.new.self c.self.inside.script.plan text c.args.r.row (λ t. c.reserve.ensures.same t ∙ c.self.invariant.5 t)
          (λ other. c.put.ensures other
          ∙ ap (λ (t : List ℕ). cond (same_text t other) (Some c.count_with_row.result) (value_at same_text before other)) c.new-2.ensures
          ∙ ap (λ (k : RowCount). cond (same_text text other) (Some k) (value_at same_text before other)) count)),
    )
