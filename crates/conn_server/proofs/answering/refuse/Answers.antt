use Rattle.std.proofs.Common.{◌∙◌, Bool, ap}
use Rattle.conn_server.specs.Moves.{phase_of}
use Rattle.conn_server.specs.Refusals.{effect_of}
use Rattle.conn_server.specs.declared.standing.Phase.{Phase}
use Rattle.conn_server.proofs.Goes.{refused_step}
use Rattle.conn_server.proofs.answering.refuse.Goals as goal

pub returns-clause-state : goal.returns-clause-state
returns-clause-state c = λ n.
    let d = c.args.dialect in
    let old = c.args.standing.now.state in
    let k = c.args.refusal.kind in
    let by = c.effect_of-effect.ensures ∙ ap (λ (p : Phase). effect_of d p c.commits-commits.result k c.args.wish) c.phase.ensures
    ∙ ap (λ (b : Bool). effect_of d (phase_of old) b k c.args.wish) c.commits-commits.ensures in
    refused_step d old c.refuse.new.self.state n c.args.demand c.args.refusal c.args.wish c.effect_of-effect.result c.requires by c.refuse.ensures.state
