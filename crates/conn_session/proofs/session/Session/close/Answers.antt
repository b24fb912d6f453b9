use Rattle.std.proofs.Common.{List, Option, [], ◌∷◌, ap, sym, subst, ◌∙◌, arith, length}
use Rattle.std.specs.Option.{option_map}
use Rattle.std.proofs.lemmas.List.{map-append}
use Rattle.conn_manager.specs.Views.{View}
use Rattle.conn_model.specs.declared.item.Dialect.TheVariants.{Pg}
use Rattle.conn_pool.specs.declared.pooled.PooledConnection.{PooledConnection}
use Rattle.conn_session.specs.Transfers.{GivesBackSome}
use Rattle.conn_session.specs.Worlds.{kept_views, views_of, world_at}
use Rattle.conn_session.proofs.Closing.{closes, first_room, gives-first, gives-last, gives-none, last_room}
use Rattle.conn_session.proofs.Numbers.{none-of_length}
use Rattle.conn_session.proofs.session.Session.close.Goals as goal

pub loop-place-init : goal.loop-place-init
loop-place-init g c = gives-none (views_of g.C.SimpleConnection.view c.args.self.out.items) (g.K.Connector.held c.args.connector.now)

pub give_back-requires : goal.give_back-requires
give_back-requires g c =
    let view = g.C.SimpleConnection.view in
    let held = g.K.Connector.held in
    let shows = λ (p : PooledConnection g.row.C.Denot). view p.connection in
    let holds = c.requires Pg [] in
    last_room (kept_views view c.args.self.core.slots) (views_of view c.args.self.out.items) (held c.args.connector.now) (views_of view c.loop-place.out.items) (views_of view c.pop.new.self.items) (held c.loop-place.connector) c.loop-place.invariant
    (option_map shows c.in-Some.place) holds.room (ap (views_of view) c.in-Some.ensures.items ∙ map-append (option_map shows) c.pop.new.self.items (c.in-Some.place ∷ []))

pub loop-place-preserved : goal.loop-place-preserved
loop-place-preserved g c =
    let view = g.C.SimpleConnection.view in
    let views = views_of g.C.SimpleConnection.view in
    let held = g.K.Connector.held in
    let shows = λ (p : PooledConnection g.row.C.Denot). view p.connection in
    let outs = views c.args.self.out.items in
    let rest = views c.pop.new.self.items in
    subst (GivesBackSome outs (held c.args.connector.now) rest) (sym c.give_back.ensures)
    (gives-last outs (held c.args.connector.now) (views c.loop-place.out.items) rest (held c.loop-place.connector) c.loop-place.invariant (option_map shows c.in-Some.place)
    (ap views c.in-Some.ensures.items ∙ map-append (option_map shows) c.pop.new.self.items (c.in-Some.place ∷ [])))

pub loop-slot-init : goal.loop-slot-init
loop-slot-init g c =
    let views = views_of g.C.SimpleConnection.view in
    let held = g.K.Connector.held in
    let outs = views c.args.self.out.items in
    let none = none-of_length c.loop-place.out.items c.loop-place.out.len c.loop-place.out.ok.0 c.in_default.ensures.cases.0 in (
      held c.loop-place.connector,
      subst (λ (left : List (Option View)). GivesBackSome outs (held c.args.connector.now) left (held c.loop-place.connector)) (ap views none) c.loop-place.invariant,
      gives-none (kept_views g.C.SimpleConnection.view c.args.self.core.slots) (held c.loop-place.connector),
    )

pub give_slot_back-requires : goal.give_slot_back-requires
give_slot_back-requires g c =
    let view = g.C.SimpleConnection.view in
    let held = g.K.Connector.held in
    let holds = c.requires Pg [] in
    first_room (kept_views view c.args.self.core.slots) (views_of view c.args.self.out.items) (held c.args.connector.now) c.loop-slot.invariant.0 (kept_views view c.loop-slot.core.slots) (kept_views view c.take.new.self.slots) (held c.loop-slot.connector)
    c.loop-slot.invariant.1 c.loop-slot.invariant.2 (option_map view c.in-Some-take.slot.kept) holds.room (ap (kept_views view) c.in-Some-take.ensures.0)

pub loop-slot-smaller : goal.loop-slot-smaller
loop-slot-smaller g c = omega (arith, ap length c.in-Some-take.ensures.0)

pub loop-slot-preserved : goal.loop-slot-preserved
loop-slot-preserved g c =
    let view = g.C.SimpleConnection.view in
    let kept = kept_views g.C.SimpleConnection.view in
    let held = g.K.Connector.held in
    let slots = kept c.args.self.core.slots in
    let rest = kept c.take.new.self.slots in
    let mid = c.loop-slot.invariant.0 in (
      mid,
      c.loop-slot.invariant.1,
      subst (GivesBackSome slots mid rest) (sym c.give_slot_back.ensures)
          (gives-first slots mid (kept c.loop-slot.core.slots) rest (held c.loop-slot.connector) c.loop-slot.invariant.2 (option_map view c.in-Some-take.slot.kept) (ap kept c.in-Some-take.ensures.0)),
    )

pub returns : goal.returns
returns g c = λ d url.
    let kept = kept_views g.C.SimpleConnection.view in
    let held = g.K.Connector.held in
    let slots = kept c.args.self.core.slots in
    let mid = c.loop-slot.invariant.0 in
    closes (world_at g.C.SimpleConnection.view c.args.self (held c.args.connector.now) d url) mid (held c.loop-slot.connector) c.loop-slot.invariant.1
    (subst (λ (left : List (Option View)). GivesBackSome slots mid left (held c.loop-slot.connector)) (ap kept c.in_default-take.ensures.0) c.loop-slot.invariant.2)
