use Rattle.std.proofs.Common.{refl, subst, sym}
use Rattle.conn_manager.specs.Manages.{begin_process, begin_test_process}
use Rattle.conn_reading.specs.declared.deed.Deed.TheVariants as deeds
use Rattle.conn_script.specs.declared.command.Customizer.{Customizer}
use Rattle.conn_session.specs.Customizing.{AcquiresAs}
use Rattle.conn_session.proofs.Responses.{counted_by, manager_asked}
use Rattle.conn_session.proofs.customizer.ScriptCustomizerCustomizeConnection.on_acquire.Goals as goal

pub returns-in-Test-clause-acquires : goal.returns-in-Test-clause-acquires
returns-in-Test-clause-acquires g c =
    let C = g.C.SimpleConnection in
    let old = C.view c.args.connection.now in
    let new = C.view c.on_acquire-in-Test.new.connection in
    let answer = c.on_acquire-in-Test.result in
    let h = c.on_acquire-in-Test.ensures.acquires in
    subst (λ (z : Customizer). AcquiresAs C.is_honest z old new answer) (sym c.in-Test.is) (record {
      asks = λ queries. manager_asked C.is_honest queries old new deeds.TestBegin begin_test_process answer (λ d s k. refl) refl (λ e m. m) h.acts h.cache;
      counted = counted_by deeds.TestBegin old.seen new.seen answer h.refused;
      honest_after = λ e. g.met.C.SimpleConnection.honesty e c.on_acquire-in-Test.new.connection;
    })

pub returns-in-Begin-clause-acquires : goal.returns-in-Begin-clause-acquires
returns-in-Begin-clause-acquires g c =
    let C = g.C.SimpleConnection in
    let old = C.view c.args.connection.now in
    let new = C.view c.on_acquire-in-Begin.new.connection in
    let answer = c.on_acquire-in-Begin.result in
    let h = c.on_acquire-in-Begin.ensures.acquires in
    subst (λ (z : Customizer). AcquiresAs C.is_honest z old new answer) (sym c.in-Begin.is) (record {
      asks = λ queries. manager_asked C.is_honest queries old new deeds.Begin begin_process answer (λ d s k. refl) refl (λ e m. m) h.acts h.cache;
      counted = counted_by deeds.Begin old.seen new.seen answer h.refused;
      honest_after = λ e. g.met.C.SimpleConnection.honesty e c.on_acquire-in-Begin.new.connection;
    })
