use Rattle.std.proofs.Common.{◌≡◌, ◌∙◌, ℕ, List, false, cond, Option, Some, ap, sym}
use Rattle.std.specs.Prelude.{◌==◌, nat_eq, is_some}
use Rattle.conn_script.specs.Drafts.{Draft, is_taken}
use Rattle.conn_script.specs.Tables.{value_at}
use Rattle.conn_script.proofs.QueryTexts.{ids_more, not_taken, texts_more}
use Rattle.conn_script.proofs.draft.Draft.add_query.Goals as goal

pub invariant_of-self-2 : goal.invariant_of-self-2
invariant_of-self-2 c =
    let free : is_taken c.self.inside.script.queries c.args.query ≡ false = ap (λ (d : Draft). is_taken d.script.queries c.args.query) c.self.view_is ∙ sym c.is_taken.ensures ∙ c.if-is_taken.false in (
      c.self.invariant.0,
      c.self.invariant.1,
      c.self.invariant.2,
      rw c.in_ok-push.ensures.ok
          (texts_more c.reserve.new.self c.put.new.self c.self.inside.script.queries c.args.query (λ n. c.reserve.ensures.same n ∙ c.self.invariant.3 n) (not_taken c.self.inside.script.queries c.args.query free)
          (λ n. c.put.ensures n ∙ ap (λ (t : List ℕ). cond (c.args.query.number == n) (Some t) (value_at nat_eq c.reserve.new.self n)) (c.new-text.ensures ∙ c.as_str.ensures))),
      rw c.in_ok-push.ensures.ok
          (ids_more c.reserve-2.new.self c.add_id.new.ids c.self.inside.script.queries c.args.query (λ n. ap (λ (o : Option (Unit {0})). is_some o) (c.reserve-2.ensures.same n) ∙ c.self.invariant.4 n) (λ n. c.add_id.ensures n)),
      c.self.invariant.5,
    )
