use Rattle.std.proofs.Common.{◌≡◌, ◌++◌, ◌∷◌, [], ◌∙◌, ap, sym, subst, List, Result, Ok, append_assoc, append-nil}
use Rattle.conn_result.specs.declared.error.Error.{Error}
use Rattle.conn_model.specs.Armed.{Values}
use Rattle.conn_drivers.specs.Reading.{ReadsOnto}
use Rattle.conn_drivers.proofs.ReadSteps.{answers_all, answers_fault, none_held, read_one}
use Rattle.conn_drivers.proofs.rows.read_all.Goals as goal

pub loop-row-preserved : goal.loop-row-preserved
loop-row-preserved g c =
    let reads = g.R.RowReader.reads c.args.reader.now in
    let row = c.in-Some.row in
    let puts = subst (λ (r : Result (Unit {0}) Error). ReadsOnto (reads row) c.loop-row.values.items c.read_onto.new.values.items r) c.in-Ok.is c.read_onto.ensures in
    let steps : c.loop-row.row-iterator.rest.items ≡ row ∷ c.next.new.self.rest.items = c.in-Some.ensures.steps.0 in (
      read_one reads c.loop-row.yielded row c.loop-row.values.items puts.value c.loop-row.invariant.0 puts.is ∙ ap (λ (us : List _). let r : Result (List _) _ = Ok us in r) (sym puts.behind),
      c.loop-row.invariant.1 ∙ ap (λ (rest : List Values). c.loop-row.yielded ++ rest) steps ∙ sym (append_assoc c.loop-row.yielded (row ∷ []) c.next.new.self.rest.items),
    )

pub returns-in-Err : goal.returns-in-Err
returns-in-Err g c =
    let reads = g.R.RowReader.reads c.args.reader.now in
    let row = c.in-Some.row in
    let fails = subst (λ (r : Result (Unit {0}) Error). ReadsOnto (reads row) c.loop-row.values.items c.read_onto.new.values.items r) c.in-Err.is c.read_onto.ensures in
    let steps : c.loop-row.row-iterator.rest.items ≡ row ∷ c.next.new.self.rest.items = c.in-Some.ensures.steps.0 in
    answers_fault reads c.loop-row.yielded row c.next.new.self.rest.items c.args.rows.items c.loop-row.values.items c.in-Err.e c.loop-row.invariant.0 (c.loop-row.invariant.1 ∙ ap (λ (rest : List Values). c.loop-row.yielded ++ rest) steps) fails

pub returns : goal.returns
returns g c =
    let reads = g.R.RowReader.reads c.args.reader.now in
    let none : c.loop-row.row-iterator.rest.items ≡ [] = none_held c.loop-row.row-iterator.rest.len c.loop-row.row-iterator.rest.items c.loop-row.row-iterator.rest.ok.0 c.in-None.ensures.steps.0 in
    answers_all reads c.loop-row.yielded c.args.rows.items c.loop-row.values.items c.loop-row.invariant.0 (c.loop-row.invariant.1 ∙ ap (λ (rest : List Values). c.loop-row.yielded ++ rest) none ∙ append-nil c.loop-row.yielded)
