use Rattle.std.proofs.Common.{◌≡◌, ap, sym, subst, ◌∙◌}
use Rattle.conn_pool.specs.Managers.{managed}
use Rattle.conn_reading.specs.Asking.{policy_of}
use Rattle.conn_server.specs.Connected.{Connected}
use Rattle.conn_session.specs.Steps.{Closes}
use Rattle.conn_session.specs.Worlds.{Invariant, Pool, World, world_at}
use Rattle.conn_session.proofs.Ended.{all_back, armed_same, at_start, attempts_at, holds_over, result_runs, start_holds, starts}
use Rattle.conn_session.proofs.transcript.run_commands.Given as given
use Rattle.conn_session.proofs.transcript.run_commands.Goals as goal

pub run_all-entries-requires : goal.run_all-entries-requires
run_all-entries-requires g c =
    let script = c.args.script.now in
    let manager = c.new-manager.result in
    let connector : Connected = g.K.Connector.held manager.connector.now in
    let same : connector ≡ g.K.Connector.held c.args.connector.now = ap g.K.Connector.held c.new-manager.ensures.connector in
    subst (λ (p : Pool). Invariant (record { pool = p; connector = connector })) (sym (c.in_ok-session.ensures (managed connector manager.dialect manager.database_url)))
    (start_holds manager.dialect manager.database_url script.max_size (policy_of script) c.in_ok-queries.queries connector (ap (λ (k : Connected). k.opened) same ∙ c.requires.none_opened) (ap (λ (k : Connected). k.returned) same ∙ c.requires.none_returned))

-- what the connector is, once the manager that borrowed it is dropped
pub close-requires : goal.close-requires
close-requires g c = λ d url.
    let held = g.K.Connector.held in
    let view = g.C.SimpleConnection.view in
    let ran = c.run_all-entries.new in
    let back : held c.connector-1.given.0 ≡ held ran.manager.connector.now = ap held (c.connector-1.given.1 (sym c.new-manager.ensures.borrows ∙ sym c.run_all-entries.ensures.lent) ∙ c.drop.ensures) in
    subst (λ (k : Connected). Invariant (world_at view ran.self k d url)) (sym back)
    (holds_over (world_at view ran.self (held ran.manager.connector.now) ran.manager.dialect ran.manager.database_url) d url c.run_all-entries.ensures.keeps.holds)

-- the session and its connector at first
abbrev first : (g : given.Over) → goal.After-close g → World
first g c = let manager = c.new-manager.result in world_at g.C.SimpleConnection.view c.in_ok-session.session (g.K.Connector.held manager.connector.now) manager.dialect manager.database_url

-- and when the commands have run
abbrev after : (g : given.Over) → goal.After-close g → World
after g c = let ran = c.run_all-entries.new in world_at g.C.SimpleConnection.view ran.self (g.K.Connector.held ran.manager.connector.now) ran.manager.dialect ran.manager.database_url

start : (g : given.Over) (c : goal.After-close g) → first g c ≡ at_start c.args.script.now (g.K.Connector.held c.args.connector.now)
start g c =
    let script = c.args.script.now in
    let manager = c.new-manager.result in
    let made = managed (g.K.Connector.held manager.connector.now) manager.dialect manager.database_url in
    starts script (g.K.Connector.held c.args.connector.now) (first g c) c.in_ok-queries.queries (c.in_ok-session.ensures made) c.new-manager.ensures.dialect (c.new-manager.ensures.database_url ∙ c.in_ok-url.ensures) (c.in_ok-queries.ensures ∙ c.as_slice.ensures) (ap g.K.Connector.held c.new-manager.ensures.connector)

closed : (g : given.Over) (c : goal.After-close g) → Closes (after g c) (g.K.Connector.held c.close.new.connector)
closed g c =
    let held = g.K.Connector.held in
    let view = g.C.SimpleConnection.view in
    let ran = c.run_all-entries.new in
    let dialect = ran.manager.dialect in
    let url = ran.manager.database_url in
    let back : held c.connector-1.given.0 ≡ held ran.manager.connector.now = ap held (c.connector-1.given.1 (sym c.new-manager.ensures.borrows ∙ sym c.run_all-entries.ensures.lent) ∙ c.drop.ensures) in
    subst (λ (k : Connected). Closes (world_at view ran.self k dialect url) (held c.close.new.connector)) back (c.close.ensures dialect url)

pub returns-clause-runs : goal.returns-clause-runs
returns-clause-runs g c =
    result_runs c.args.script.now (g.K.Connector.held c.args.connector.now) (g.K.Connector.held c.close.new.connector) (first g c) (after g c) (start g c) c.run_all-entries.ensures.keeps (closed g c)
    g.K.Connector.is_honest c.as_slice-2.result.now (λ entries. entries.items) c.run_all-entries.result c.as_slice-2.ensures c.requires.none_opened c.requires.none_returned c.run_all-entries.ensures.runs

pub returns-clause-aims : goal.returns-clause-aims
returns-clause-aims g c = attempts_at c.args.script.now (g.K.Connector.held c.args.connector.now) (g.K.Connector.held c.close.new.connector) (first g c) (after g c) (start g c) c.run_all-entries.ensures.keeps (closed g c)

pub returns-clause-armed : goal.returns-clause-armed
returns-clause-armed g c = armed_same c.args.script.now (g.K.Connector.held c.args.connector.now) (g.K.Connector.held c.close.new.connector) (first g c) (after g c) (start g c) c.run_all-entries.ensures.keeps (closed g c)

pub returns-clause-back : goal.returns-clause-back
returns-clause-back g c = all_back (after g c) (g.K.Connector.held c.close.new.connector) c.run_all-entries.ensures.keeps.holds (closed g c)
