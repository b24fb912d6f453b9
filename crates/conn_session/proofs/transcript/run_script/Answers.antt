use Rattle.std.proofs.Common.{rules, ◌≡◌, ℕ, true, ap, subst}
use Rattle.std.specs.Prelude.{sum_by}
use Rattle.std.specs.List.{AllByRecursion}
use Rattle.conn_server.specs.Connected.{Connected}
use Rattle.conn_session.specs.Commands.{IsAnswered, RunsScript}
use Rattle.conn_session.specs.Steps.{IsCausedBy}
use Rattle.conn_session.specs.Worlds.{refusals}
use Rattle.conn_session.proofs.Kept.{each_told}
use Rattle.conn_session.proofs.Borne.{are_borne_out, has_own_statements}
use Rattle.conn_session.proofs.transcript.run_script.Goals as goal

pub returns-clause-transcribes : goal.returns-clause-transcribes
returns-clause-transcribes g c =
    let script = c.args.script.now in
    let held = g.K.Connector.held in
    let mid = held c.arm.new.self in
    let k = held c.run_commands.new.connector in
    let runs : RunsScript g.K.Connector.is_honest script mid k c.from_vec.result = rw c.from_vec.ensures c.in_ok-entries.ensures.runs in
    let answered : (g.K.Connector.is_honest ≡ true → IsAnswered script k c.from_vec.result) = search rules in
    record {
      entries = runs.played;
      servers = search rules;
      caused = subst (λ (m : ℕ). AllByRecursion (IsCausedBy (λ n. sum_by (refusals n) k.returned) m k.failures) c.from_vec.result) (ap (λ (x : Connected). x.failures) c.arm.ensures.keeps) runs.caused;
      aimed = search rules;
      armed = search rules;
      answered = answered;
      kept = λ honest. each_told script.dialect k g.K.S.Server.is_honest c.in_ok-servers.servers (g.met.K.Connector.opens_honest honest) c.in_ok-servers.ensures (runs.kept honest);
      borne_out = λ honest. are_borne_out script k c.from_vec.result c.requires.parsed (answered honest);
      statements = λ honest. has_own_statements script k c.from_vec.result c.requires.parsed (answered honest);
    }
