use Rattle.std.proofs.Common.{List, [], refl, sym, subst, take, ◌∙◌}
use Rattle.std.proofs.lemmas.List.{take_more}
use Rattle.conn_report.specs.declared.entry.Entry.{Entry}
use Rattle.conn_session.specs.Steps.{RunsAll}
use Rattle.conn_session.specs.Worlds.{world_at}
use Rattle.conn_session.proofs.Runs.{keeps-refl, keeps-trans, runs-none, runs-push}
use Rattle.conn_session.proofs.session.Session.run_all.Goals as goal

pub loop-command-init : goal.loop-command-init
loop-command-init g c =
    let honest = g.K.Connector.is_honest in
    let w = world_at g.C.SimpleConnection.view c.args.self.now (g.K.Connector.held c.args.manager.now.connector.now) c.args.manager.now.dialect c.args.manager.now.database_url in
    record { keeps = keeps-refl w c.requires; runs = subst (λ (es : List Entry). RunsAll honest [] w w es) (sym c.in_ok-entries.ensures.items) (runs-none honest w); lent = refl }

pub loop-command-preserved : goal.loop-command-preserved
loop-command-preserved g c =
    let held = g.K.Connector.held in
    let start = world_at g.C.SimpleConnection.view c.args.self.now (held c.args.manager.now.connector.now) c.args.manager.now.dialect c.args.manager.now.database_url in
    let old = world_at g.C.SimpleConnection.view c.loop-command.self (held c.loop-command.manager.connector.now) c.loop-command.manager.dialect c.loop-command.manager.database_url in
    let new = world_at g.C.SimpleConnection.view c.run.new.self (held c.run.new.manager.connector.now) c.run.new.manager.dialect c.run.new.manager.database_url in
    record {
      keeps = keeps-trans start old new c.loop-command.invariant.keeps c.run.ensures.steps.keeps;
      runs = rw c.in_ok-push.ensures.items
          (rw (take_more c.args.commands.now c.loop-command.command-index c.command-item.result c.loop-command-test.true, ← c.command-item.is)
          (runs-push g.K.Connector.is_honest start old new (take c.loop-command.command-index c.args.commands.now) c.command-item.result c.loop-command.entries.items c.in_ok-entry.entry c.loop-command.invariant.keeps
          c.loop-command.invariant.runs c.in_ok-entry.ensures.steps));
      lent = c.run.ensures.lent ∙ c.loop-command.invariant.lent;
    }
