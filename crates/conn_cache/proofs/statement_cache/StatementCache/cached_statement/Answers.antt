use Rattle.conn_cache.proofs.Sounding.{gives_own, stand_still, stays_sound}
use Rattle.conn_cache.proofs.Turning.{takes_turn}
use Rattle.conn_cache.proofs.statement_cache.StatementCache.cached_statement.Goals as goal

pub returns-clause-turn : goal.returns-clause-turn
returns-clause-turn g c = takes_turn g.P.Preparer.prepares g.I.Instrumentation.told _ _ _ _ _ _ _ _ _ c.look_up.ensures.looks_up

pub returns-clause-sound : goal.returns-clause-sound
returns-clause-sound g c = stays_sound g.P.Preparer.prepares g.P.Preparer.stands g.P.Preparer.serves_no g.I.Instrumentation.told g.met.P.Preparer.stands_after g.met.P.Preparer.others_stay _ _ _ _ _ _ _ _ _ c.look_up.ensures.looks_up

pub returns-clause-own : goal.returns-clause-own
returns-clause-own g c = gives_own g.P.Preparer.prepares g.P.Preparer.stands g.P.Preparer.serves_no g.I.Instrumentation.told g.met.P.Preparer.stands_after g.met.P.Preparer.others_stay _ _ _ _ _ _ _ _ _ c.look_up.ensures.looks_up

pub returns-clause-others : goal.returns-clause-others
returns-clause-others g c = stand_still g.P.Preparer.prepares g.P.Preparer.stands g.P.Preparer.serves_no g.I.Instrumentation.told g.met.P.Preparer.stands_after g.met.P.Preparer.others_stay _ _ _ _ _ _ _ _ _ c.look_up.ensures.looks_up
