use Rattle.std.proofs.Common.{refl, ap, sym, subst, ◌∙◌, List, Result, Ok}
use Rattle.conn_result.specs.declared.error.Error.{Error}
use Rattle.conn_model.specs.Armed.{Values}
use Rattle.conn_drivers.specs.Held.{all_held}
use Rattle.conn_drivers.specs.Loaded.{LoadsFrom, listed}
use Rattle.conn_drivers.specs.Raws.{shows}
use Rattle.conn_drivers.proofs.LoadEnds.{loads_from}
use Rattle.conn_drivers.proofs.cursor.PgConnection+S+H.load.Goals as goal

pub returns-in-Ok-clause-loads : goal.returns-in-Ok-clause-loads
returns-in-Ok-clause-loads g c =
    let S = g.S.Server in
    let told = g.H.Instrumentation.told in
    let q = g.Q.Query.view c.args.source.now in
    let did = c.load_by in
    let old = shows S.seen told c.args.self.now.raw in
    let new = shows S.seen told did.new.self in
    subst (λ (r : Result (List Values) Error). LoadsFrom S.is_honest q all_held old new r) (ap listed c.in-Ok.is ∙ ap (λ (rows : List Values). let r : Result (List Values) Error = Ok rows in r) (sym c.new.ensures))
    (loads_from S.is_honest q listed all_held old new did.result (λ e. refl) did.ensures.loads)

pub returns-in-Err-clause-loads : goal.returns-in-Err-clause-loads
returns-in-Err-clause-loads g c =
    let S = g.S.Server in
    let told = g.H.Instrumentation.told in
    let q = g.Q.Query.view c.args.source.now in
    let did = c.load_by in
    let old = shows S.seen told c.args.self.now.raw in
    let new = shows S.seen told did.new.self in
    subst (λ (r : Result (List Values) Error). LoadsFrom S.is_honest q all_held old new r) (ap listed c.in-Err.is) (loads_from S.is_honest q listed all_held old new did.result (λ e. refl) did.ensures.loads)
