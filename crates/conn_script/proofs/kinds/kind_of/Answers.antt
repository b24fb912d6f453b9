use Rattle.std.proofs.Common.{◌∙◌, ◌+◌, sym, drop, get_or}
use Rattle.std.specs.Str.{bytes_eq}
use Rattle.std.proofs.lemmas.List.{drop_more}
use Rattle.conn_result.specs.declared.error.DatabaseErrorKind.TheVariants.{UniqueViolation}
use Rattle.conn_script.specs.Spelling.{kind_text, all_kinds}
use Rattle.conn_script.proofs.Tables.{find_passed}
use Rattle.conn_script.proofs.kinds.kind_of.Goals as goal

pub loop-kind-preserved : goal.loop-kind-preserved
loop-kind-preserved c =
    let i = c.loop-kind.kind-index in
    find_passed (λ k. bytes_eq c.args.name.now (kind_text k)) (drop i all_kinds) (drop (i + 1) all_kinds) (get_or all_kinds i UniqueViolation) (drop_more all_kinds i UniqueViolation c.loop-kind-test.true) (rw c.kind_name.ensures at (sym c.eq.ensures) ∙ c.if-eq.false)
    ∙ c.loop-kind.invariant
