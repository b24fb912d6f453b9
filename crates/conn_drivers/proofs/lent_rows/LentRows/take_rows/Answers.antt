use Rattle.std.proofs.Common.{◌≡◌, ◌<◌, ◌≤◌, ◌+◌, ◌++◌, ◌∷◌, [], ◌∙◌, Some, Ok, Err, List, Result, arith, length, length-append, ap, subst, sym, refl}
use Rattle.std.specs.Prelude.{MatchResult}
use Rattle.conn_result.specs.declared.error.Error.{Error}
use Rattle.conn_result.specs.declared.error.Error.TheVariants.{OutOfMemory}
use Rattle.conn_model.specs.Armed.{Values}
use Rattle.conn_manager.specs.Views.{View}
use Rattle.conn_drivers.specs.Cursors.{HasAsked, TakesRows}
use Rattle.conn_drivers.specs.Raws.{shows}
use Rattle.conn_drivers.specs.declared.progress.Progress.{Progress}
use Rattle.conn_drivers.specs.declared.progress.Progress.TheVariants.{Going}
use Rattle.conn_drivers.proofs.CursorLaws.{asked_none, row_asked, row_lost, row_refused, rows_ended, takes_enough}
use Rattle.conn_drivers.proofs.lent_rows.LentRows.take_rows.Goals as goal

pub loop-self-init : goal.loop-self-init
loop-self-init g c =
    let begun : View = shows g.S.Server.seen g.H.Instrumentation.told c.args.self.now.conn.now.raw in
    let none : length c.new-rows.result.items ≡ 0 = ap (λ (rows : List Values). length rows) c.new-rows.ensures.items in
    (subst (λ (rows : List Values). HasAsked begun begun Going rows) (sym c.new-rows.ensures.items) (asked_none begun), c.requires.fresh, omega (arith, none), refl, refl, refl)

pub loop-self-preserved : goal.loop-self-preserved
loop-self-preserved g c =
    let S = g.S.Server in
    let told = g.H.Instrumentation.told in
    let self = c.loop-self.self in
    let new = c.next.new.self in
    let row = c.in-Some-Ok.row in
    let is : c.next.result ≡ Some (Ok row) = cc in
    let behind = subst (λ (r : Result (Unit {0}) Error). MatchResult r (λ _. c.hold.new.rows.items ≡ c.loop-self.rows.items ++ row ∷ []) (λ e. e ≡ OutOfMemory)) c.in-Ok.is c.hold.ensures in
    let asked = row_asked (shows S.seen told c.args.self.now.conn.now.raw) (shows S.seen told self.conn.now.raw) (shows S.seen told new.conn.now.raw) c.loop-self.rows.items self.progress new.progress c.next.result
    c.loop-self.invariant.0 c.loop-self.invariant.1 c.next.ensures.nexts row c.hold.new.rows.items is behind in
    let within : length c.loop-self.rows.items < c.args.count = omega (arith, c.loop-self.rows.ok.0, c.len.ensures, c.loop-self-test.true) in
    let longer : length c.hold.new.rows.items ≡ length c.loop-self.rows.items + 1 = ap (λ (rows : List Values). length rows) behind ∙ length-append c.loop-self.rows.items (row ∷ []) in
    (asked.1, asked.0, omega (arith, within, longer), c.next.ensures.same_reference ∙ c.loop-self.invariant.3, c.next.ensures.statement ∙ c.loop-self.invariant.4, c.next.ensures.sql ∙ c.loop-self.invariant.5)

pub loop-self-smaller : goal.loop-self-smaller
loop-self-smaller g c =
    let row = c.in-Some-Ok.row in
    let behind = subst (λ (r : Result (Unit {0}) Error). MatchResult r (λ _. c.hold.new.rows.items ≡ c.loop-self.rows.items ++ row ∷ []) (λ e. e ≡ OutOfMemory)) c.in-Ok.is c.hold.ensures in
    let within : length c.loop-self.rows.items < c.args.count = omega (arith, c.loop-self.rows.ok.0, c.len.ensures, c.loop-self-test.true) in
    let longer : length c.hold.new.rows.items ≡ length c.loop-self.rows.items + 1 = ap (λ (rows : List Values). length rows) behind ∙ length-append c.loop-self.rows.items (row ∷ []) in
    omega (arith, within, longer)

pub returns-in-Err-clause-takes : goal.returns-in-Err-clause-takes
returns-in-Err-clause-takes g c =
    let S = g.S.Server in
    let told = g.H.Instrumentation.told in
    let self = c.loop-self.self in
    let new = c.next.new.self in
    let row = c.in-Some-Ok.row in
    let is : c.next.result ≡ Some (Ok row) = cc in
    let memory = subst (λ (r : Result (Unit {0}) Error). MatchResult r (λ _. c.hold.new.rows.items ≡ c.loop-self.rows.items ++ row ∷ []) (λ e. e ≡ OutOfMemory)) c.in-Err.is c.hold.ensures in
    row_lost (shows S.seen told c.args.self.now.conn.now.raw) (shows S.seen told self.conn.now.raw) (shows S.seen told new.conn.now.raw) c.loop-self.rows.items self.progress new.progress c.next.result
    c.loop-self.invariant.0 c.loop-self.invariant.1 c.next.ensures.nexts c.args.count row c.in-Err.e is memory

pub returns-in-Some-Err-clause-takes : goal.returns-in-Some-Err-clause-takes
returns-in-Some-Err-clause-takes g c =
    let S = g.S.Server in
    let told = g.H.Instrumentation.told in
    let self = c.loop-self.self in
    let new = c.next.new.self in
    let is : c.next.result ≡ Some (Err c.in-Some-Err.e) = cc in
    row_refused (shows S.seen told c.args.self.now.conn.now.raw) (shows S.seen told self.conn.now.raw) (shows S.seen told new.conn.now.raw) c.loop-self.rows.items self.progress new.progress c.next.result
    c.loop-self.invariant.0 c.loop-self.invariant.1 c.next.ensures.nexts c.args.count c.in-Some-Err.e is

pub returns-in-None-clause-takes : goal.returns-in-None-clause-takes
returns-in-None-clause-takes g c =
    let S = g.S.Server in
    let told = g.H.Instrumentation.told in
    let self = c.loop-self.self in
    let new = c.next.new.self in
    rows_ended (shows S.seen told c.args.self.now.conn.now.raw) (shows S.seen told self.conn.now.raw) (shows S.seen told new.conn.now.raw) c.loop-self.rows.items self.progress new.progress c.next.result
    c.loop-self.invariant.0 c.loop-self.invariant.1 c.next.ensures.nexts c.args.count c.loop-self.invariant.2 c.in-None.is

pub returns-clause-takes : goal.returns-clause-takes
returns-clause-takes g c =
    let S = g.S.Server in
    let told = g.H.Instrumentation.told in
    let begun : View = shows S.seen told c.args.self.now.conn.now.raw in
    let now : View = shows S.seen told c.loop-self.self.conn.now.raw in
    let front = c.loop-self.rows.items in
    let most : length front ≤ c.args.count = c.loop-self.invariant.2 in
    let enough : c.args.count ≡ length front = omega (arith, c.loop-self.rows.ok.0, c.len.ensures, c.loop-self-test.false, most) in
    subst (λ (p : Progress). TakesRows c.args.count begun now p (Ok front)) (sym c.loop-self.invariant.1) (takes_enough c.args.count begun now front c.loop-self.invariant.0 enough)
