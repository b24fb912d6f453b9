use Rattle.std.proofs.Common.{ap, sym, subst, ◌∙◌, arith, List, Option, Ok}
use Rattle.std.specs.Option.{option_map}
use Rattle.conn_report.specs.declared.entry.Reply.TheVariants as replies
use Rattle.conn_session.specs.Steps.{AnswersOn}
use Rattle.conn_manager.specs.Views.{View}
use Rattle.conn_pool.specs.declared.pooled.PooledConnection.{PooledConnection}
use Rattle.conn_session.specs.Worlds.{Pool, world_at}
use Rattle.conn_session.proofs.Deeds.{on_absent, on_place, on_left, honest_place}
use Rattle.conn_session.proofs.Shown.{place-at, views-set}
use Rattle.conn_session.proofs.Numbers.{at_number-map, at_number-past}
use Rattle.conn_session.proofs.session.Session.act.Goals as goal

pub returns-in-Some : goal.returns-in-Some
returns-in-Some g c =
    let view = g.C.SimpleConnection.view in
    let shows = λ (p : PooledConnection g.row.C.Denot). view p.connection in
    let honest = g.K.Connector.is_honest in
    let k = g.K.Connector.held c.args.manager.now.connector.now in
    let w = world_at view c.args.self.now k c.args.manager.now.dialect c.args.manager.now.database_url in
    let out = c.args.self.now.out in
    let there = place-at shows c.args.n out.items c.index_mut.result.now (omega (arith, out.ok.0, c.len.ensures, c.if-place-len.false)) c.index_mut.ensures.value in
    subst (λ (p : Pool). AnswersOn honest c.args.n c.args.deed.now w (record { pool = p; connector = k }) c.in-Some.result) (sym (ap (λ (out : List (Option View)). record w.pool { out = out }) (views-set view out.items c.args.n c.act_in.new.place)))
    (λ line word. on_place honest g.C.SimpleConnection.is_honest (λ h. g.met.C.Establish.same_honesty ∙ g.met.K.Connector.opens_honest h) line c.args.n word c.args.deed.now w (option_map shows c.index_mut.result.now) (option_map shows c.act_in.new.place) c.in-Some.result there c.in-Some.ensures
    (λ h. honest_place shows (λ (p : PooledConnection g.row.C.Denot). g.met.C.SimpleConnection.honesty (g.met.C.Establish.same_honesty ∙ g.met.K.Connector.opens_honest h) p.connection) c.act_in.new.place) c.requires)

pub returns-in-None : goal.returns-in-None
returns-in-None g c =
    let view = g.C.SimpleConnection.view in
    let shows = λ (p : PooledConnection g.row.C.Denot). view p.connection in
    let honest = g.K.Connector.is_honest in
    let k = g.K.Connector.held c.args.manager.now.connector.now in
    let w = world_at view c.args.self.now k c.args.manager.now.dialect c.args.manager.now.database_url in
    let out = c.args.self.now.out in
    let n = c.args.n in
    let there = place-at shows n out.items c.index_mut.result.now (omega (arith, out.ok.0, c.len.ensures, c.if-place-len.false)) c.index_mut.ensures.value in
    let left = on_left g.C.SimpleConnection.is_honest n c.args.deed.now w (option_map shows c.index_mut.result.now) (option_map shows c.act_in.new.place) there c.in-None.ensures in
    subst (λ (p : Pool). AnswersOn honest n c.args.deed.now w (record { pool = p; connector = k }) (Ok replies.NotOut)) (sym (ap (λ (out : List (Option View)). record w.pool { out = out }) (views-set view out.items n c.act_in.new.place) ∙ left.1))
    (λ line word. on_absent honest g.C.SimpleConnection.is_honest (λ h. g.met.C.Establish.same_honesty ∙ g.met.K.Connector.opens_honest h) line n word c.args.deed.now w left.0 c.requires)

pub returns-then-place-len : goal.returns-then-place-len
returns-then-place-len g c =
    let view = g.C.SimpleConnection.view in
    let shows = λ (p : PooledConnection g.row.C.Denot). view p.connection in
    let w = world_at g.C.SimpleConnection.view c.args.self.now (g.K.Connector.held c.args.manager.now.connector.now) c.args.manager.now.dialect c.args.manager.now.database_url in
    let out = c.args.self.now.out in
    let n = c.args.n in
    let none = at_number-map shows n out.items ∙ ap (option_map shows) (at_number-past n out.items (omega (arith, out.ok.0, c.len.ensures, c.if-place-len.true))) in
    λ line word. on_absent g.K.Connector.is_honest g.C.SimpleConnection.is_honest (λ h. g.met.C.Establish.same_honesty ∙ g.met.K.Connector.opens_honest h) line n word c.args.deed.now w none c.requires
