use Rattle.std.proofs.Common.{◌≡◌, ◌<◌, ap, sym, subst, ◌∙◌, length, List, Option, None, Ok, true, false}
use Rattle.std.specs.Prelude.{slice_set}
use Rattle.conn_pool.specs.Managers.{managed}
use Rattle.conn_pool.specs.SlotViews.{GivesBack, PoolView, kept_view}
use Rattle.conn_pool.specs.declared.pooled.PooledConnection.{PooledConnection}
use Rattle.conn_report.specs.declared.entry.Entry.{Entry}
use Rattle.conn_report.specs.declared.entry.Reply.TheVariants as replies
use Rattle.conn_script.specs.declared.request.Request.TheVariants.{Put}
use Rattle.conn_session.specs.Steps.{Steps}
use Rattle.conn_session.specs.Worlds.{World, policy_with, world_at}
use Rattle.conn_session.proofs.Checkouts.{world_from}
use Rattle.conn_session.proofs.Checkins.{back_absent, back_closed, back_kept, back_out, back_room}
use Rattle.conn_session.proofs.session.Session.put.Goals as goal

pub returns-in_default-clause-steps : goal.returns-in_default-clause-steps
returns-in_default-clause-steps g c =
    let view = g.C.SimpleConnection.view in
    let held = g.K.Connector.held in
    let self = c.args.self.now in
    let policy = policy_with self.customizer self.check in
    let m = managed (held c.args.manager.now.connector.now) c.args.manager.now.dialect c.args.manager.now.database_url in
    let is : world_at view c.take_out.new.self (held c.args.manager.now.connector.now) c.args.manager.now.dialect c.args.manager.now.database_url ≡ world_from view self.core (slice_set self.out.items c.args.n None) self.blocks self.queries policy m =
    ap (λ s. world_at view s (held c.args.manager.now.connector.now) c.args.manager.now.dialect c.args.manager.now.database_url) c.take_out.ensures.rest
    ∙ ap (λ (l : List (Option (PooledConnection _))). world_from view self.core l self.blocks self.queries policy m) c.take_out.ensures.left in
    subst (λ (w : World). Steps g.K.Connector.is_honest c.args.line (Put c.args.n) (world_at view self (held c.args.manager.now.connector.now) c.args.manager.now.dialect c.args.manager.now.database_url) w (Ok c.entry_without.result)) (sym is)
    (back_absent (λ m. managed (held m.connector.now) m.dialect m.database_url) view g.K.Connector.is_honest c.args.line c.args.n self.core c.args.manager.now self.out.items self.blocks self.queries policy c.requires c.entry_without.result
    (sym c.in_default.ensures.taken) c.entry_without.ensures)

pub put_back-requires-clause-out : goal.put_back-requires-clause-out
put_back-requires-clause-out g c =
    let view = g.C.SimpleConnection.view in
    let held = g.K.Connector.held in
    let self = c.args.self.now in
    let core_is : c.take_out.new.self.core ≡ self.core = ap (λ s. s.core) c.take_out.ensures.rest in
    subst (λ (x : PoolView _). length x.slots < x.max_size) (sym core_is)
    (back_out (λ m. managed (held m.connector.now) m.dialect m.database_url) view g.K.Connector.is_honest c.args.line c.args.n self.core c.args.manager.now self.out.items self.blocks self.queries (policy_with self.customizer self.check) c.requires c.in-Some.connection
    (sym c.in-Some.ensures.taken))

pub put_back-requires-clause-room : goal.put_back-requires-clause-room
put_back-requires-clause-room g c =
    let view = g.C.SimpleConnection.view in
    let held = g.K.Connector.held in
    let self = c.args.self.now in
    back_room (λ m. managed (held m.connector.now) m.dialect m.database_url) view g.K.Connector.is_honest c.args.line c.args.n self.core c.args.manager.now self.out.items self.blocks self.queries (policy_with self.customizer self.check) c.requires c.in-Some.connection
    (sym c.in-Some.ensures.taken)

pub returns-then-put_back-clause-steps : goal.returns-then-put_back-clause-steps
returns-then-put_back-clause-steps g c =
    let view = g.C.SimpleConnection.view in
    let held = g.K.Connector.held in
    let self = c.args.self.now in
    let n = c.args.n in
    let policy = policy_with self.customizer self.check in
    let m = managed (held c.put_back.new.manager.connector.now) c.put_back.new.manager.dialect c.put_back.new.manager.database_url in
    let core = c.put_back.new.core in
    let s = c.take_out.new.self in
    let is : world_from view core s.out.items s.blocks s.queries (policy_with s.customizer s.check) m ≡ world_from view core (slice_set self.out.items n None) self.blocks self.queries policy m =
    ap (λ x. world_from view core s.out.items x.blocks x.queries (policy_with x.customizer x.check) m) c.take_out.ensures.rest
    ∙ ap (λ (l : List (Option (PooledConnection _))). world_from view core l self.blocks self.queries policy m) c.take_out.ensures.left in
    let core_is : s.core ≡ self.core = ap (λ x. x.core) c.take_out.ensures.rest in
    subst (λ (w : World). Steps g.K.Connector.is_honest c.args.line (Put n) (world_at view self (held c.args.manager.now.connector.now) c.args.manager.now.dialect c.args.manager.now.database_url) w (Ok c.entry_on-entry.result)) (sym is)
    (back_kept (λ x. managed (held x.connector.now) x.dialect x.database_url) view g.K.Connector.is_honest c.args.line n self.core c.args.manager.now self.out.items self.blocks self.queries policy c.requires c.in-Some.connection (sym c.in-Some.ensures.taken)
    core c.put_back.new.manager c.entry_on-entry.result c.if-put_back.ensures.settles (subst (λ (x : PoolView _). GivesBack view x core c.in-Some.connection.slot (kept_view (view c.in-Some.connection.connection) true)) core_is c.if-put_back.ensures.slot)
    c.entry_on-entry.ensures)

pub returns-else-put_back-clause-steps : goal.returns-else-put_back-clause-steps
returns-else-put_back-clause-steps g c =
    let view = g.C.SimpleConnection.view in
    let held = g.K.Connector.held in
    let self = c.args.self.now in
    let n = c.args.n in
    let policy = policy_with self.customizer self.check in
    let m = managed (held c.put_back.new.manager.connector.now) c.put_back.new.manager.dialect c.put_back.new.manager.database_url in
    let core = c.put_back.new.core in
    let s = c.take_out.new.self in
    let closed : Entry = record c.entry_on-entry.result { reply = replies.Closed } in
    let is : world_from view core s.out.items s.blocks s.queries (policy_with s.customizer s.check) m ≡ world_from view core (slice_set self.out.items n None) self.blocks self.queries policy m =
    ap (λ x. world_from view core s.out.items x.blocks x.queries (policy_with x.customizer x.check) m) c.take_out.ensures.rest
    ∙ ap (λ (l : List (Option (PooledConnection _))). world_from view core l self.blocks self.queries policy m) c.take_out.ensures.left in
    let core_is : s.core ≡ self.core = ap (λ x. x.core) c.take_out.ensures.rest in
    subst (λ (w : World). Steps g.K.Connector.is_honest c.args.line (Put n) (world_at view self (held c.args.manager.now.connector.now) c.args.manager.now.dialect c.args.manager.now.database_url) w (Ok closed)) (sym is)
    (back_closed (λ x. managed (held x.connector.now) x.dialect x.database_url) view g.K.Connector.is_honest c.args.line n self.core c.args.manager.now self.out.items self.blocks self.queries policy c.requires c.in-Some.connection (sym c.in-Some.ensures.taken)
    core c.put_back.new.manager closed c.if-put_back.ensures.settles (subst (λ (x : PoolView _). GivesBack view x core c.in-Some.connection.slot (kept_view (view c.in-Some.connection.connection) false)) core_is c.if-put_back.ensures.slot)
    (ap (λ (e : Entry). record e { reply = replies.Closed }) c.entry_on-entry.ensures))
