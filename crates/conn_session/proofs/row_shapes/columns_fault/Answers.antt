use Rattle.std.proofs.Common.{◌∙◌, false, sym, ap, refl, arith, Some, None}
use Rattle.std.proofs.lemmas.List.{drop_all}
use Rattle.conn_reading.specs.RowShapes.{columns_fault}
use Rattle.conn_script.specs.declared.shape.ShapeKind.TheVariants.{Int}
use Rattle.conn_session.proofs.ShapeFaults.{fault_from}
use Rattle.conn_session.proofs.row_shapes.columns_fault.Goals as goal

pub loop-place-init : goal.loop-place-init
loop-place-init c = refl

pub returns-in-Some : goal.returns-in-Some
returns-in-Some c =
    let i = c.loop-place.place in
    let own = sym c.column_fault.ensures ∙ c.in-Some.is in
    sym (c.loop-place.invariant ∙ fault_from c.args.columns.now c.args.row.now i (Int, false) (Some c.in-Some.fault) c.loop-place-test.true (rw c.get.ensures at own))

pub loop-place-preserved : goal.loop-place-preserved
loop-place-preserved c =
    let i = c.loop-place.place in
    let own = sym c.column_fault.ensures ∙ c.in_default.is in
    c.loop-place.invariant ∙ fault_from c.args.columns.now c.args.row.now i (Int, false) None c.loop-place-test.true (rw c.get.ensures at own)

pub returns : goal.returns
returns c = sym (c.loop-place.invariant ∙ ap (λ cs. columns_fault c.loop-place.place cs c.args.row.now) (drop_all c.loop-place.place c.args.columns.now (omega (arith, c.loop-place-test.false))))
