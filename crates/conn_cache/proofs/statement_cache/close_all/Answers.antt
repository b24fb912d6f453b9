use Rattle.std.proofs.Common.{◌≡◌, [], ◌∷◌, ◌++◌, arith}
use Rattle.std.specs.Prelude.{reverse}
use Rattle.std.proofs.lemmas.Grind.{common_steps}
use Rattle.conn_cache.proofs.Closing.{closes_more, stand_beside}
use Rattle.conn_cache.proofs.statement_cache.close_all.Goals as goal

pub loop-statement-preserved : goal.loop-statement-preserved
loop-statement-preserved g c =
    let inv = c.loop-statement.invariant in
    let t = c.in-Some.statement in
    (inv.0 ++ t ∷ [], grind (arith, common_steps), closes_more g.P.Preparer.closes c.args.preparer.now c.loop-statement.preparer c.close.new.self inv.0 t inv.2 c.close.ensures.does, cc, λ text room. c.close.ensures.room text (inv.4 text room))

pub returns-clause-others : goal.returns-clause-others
returns-clause-others g c apart own =
    let inv = c.loop-statement.invariant in
    let is : c.args.statements.now.items ≡ reverse inv.0 = grind (arith, common_steps) in
    stand_beside g.P.Preparer.closes g.P.Preparer.stands g.met.P.Preparer.others_stay_open c.args.preparer.now c.loop-statement.preparer c.args.statements.now.items inv.0 is inv.2 apart own
