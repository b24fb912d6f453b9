use Rattle.std.proofs.Common.{◌≡◌, take}
use Rattle.conn_session.specs.Steps.{KeepsAll, RunsAll}
use Rattle.conn_session.specs.Worlds.{world_at}
use Rattle.conn_session.proofs.session.Session.run_all.Given as goal

-- the commands so far gave these entries
abbrev pub invariant-loop-command : goal.invariant-loop-command
invariant-loop-command g l =
    let held = g.K.Connector.held in
    let start = world_at g.C.SimpleConnection.view l.fn.self (held l.fn.manager.connector.now) l.fn.manager.dialect l.fn.manager.database_url in
    let now = world_at g.C.SimpleConnection.view l.self (held l.manager.connector.now) l.manager.dialect l.manager.database_url in
    record {
      keeps : KeepsAll start now;
      runs : RunsAll g.K.Connector.is_honest (take l.command-index l.commands) start now l.entries.items;
      lent : l.manager.connector.ghost_name ≡ l.fn.manager.connector.ghost_name;
    }
