use Rattle.std.proofs.Common.{rules, ◌≡◌, ◌∙◌, ◌-◌, ◌++◌, ◌∷◌, [], ℕ, Bool, List, ap, sym}
use Rattle.conn_script.specs.Shapes.{shape_columns}
use Rattle.conn_script.specs.declared.shape.ShapeKind.{ShapeKind}
use Rattle.conn_script.proofs.Columns.{columns_more}
use Rattle.conn_script.proofs.Reading.{behind}
use Rattle.conn_script.proofs.shape.columns_in.Goals as goal

pub loop-letter-preserved : goal.loop-letter-preserved
loop-letter-preserved c =
    let l = c.loop-letter in
    let here : l.rest.now ≡ c.in-Some.letter.now ∷ c.in-Some.behind.now = search (rules, c.in-Some.ensures.cases) in
    ap (λ (cs : List (ShapeKind × Bool)). behind cs (shape_columns (l.left - 1) c.cut_null_mark-may_be_null.result.1.now)) c.in_ok-push.ensures.ok
    ∙ ap (λ (p : Bool × List ℕ). behind (l.columns ++ (c.in-Some-kind_of_letter.kind, p.0) ∷ []) (shape_columns (l.left - 1) p.1)) c.cut_null_mark-may_be_null.ensures
    ∙ columns_more l.columns l.left c.in-Some.letter.now c.in-Some.behind.now c.in-Some-kind_of_letter.kind c.if-left-eq0.false c.in-Some-kind_of_letter.ensures
    ∙ ap (λ (bs : List ℕ). behind l.columns (shape_columns l.left bs)) (sym here)
    ∙ l.invariant
