use Rattle.std.proofs.Common.{◌≡◌, ap, sym, subst, ◌∙◌, refl, List, Option, Some, None, Ok}
use Rattle.std.specs.Prelude.{slice_get, slice_set}
use Rattle.conn_pool.specs.Managers.{Managed, managed}
use Rattle.conn_pool.specs.declared.pooled.PooledConnection.{PooledConnection}
use Rattle.conn_script.specs.declared.request.Request.TheVariants.{Get}
use Rattle.conn_session.specs.Steps.{Steps}
use Rattle.conn_session.specs.Worlds.{World, filled_to, policy_with, world_at}
use Rattle.conn_session.proofs.Checkouts.{got_err, got_ok, got_vacant, world_from}
use Rattle.conn_session.proofs.session.Session.get.Goals as goal

pub put_out-requires : goal.put_out-requires
put_out-requires g c =
    let view = g.C.SimpleConnection.view in
    let held = g.K.Connector.held in
    let self = c.args.self.now in
    let n = (view c.in-Ok.connection.connection).seen.number in
    let opened = (held c.try_get-got.new.manager.connector.now).opened in
    let out_is : c.fill_places.new.self.out.items ≡ filled_to opened self.out.items = c.fill_places.ensures.out ∙ ap (filled_to opened) c.in_ok-reserve.ensures.items in
    subst (λ (l : List (Option (PooledConnection _))). slice_get l n ≡ Some None) (sym out_is)
    (got_vacant (λ m. managed (held m.connector.now) m.dialect m.database_url) view g.K.Connector.is_honest g.C.SimpleConnection.is_honest (λ h. g.met.C.Establish.same_honesty ∙ g.met.K.Connector.opens_honest h) c.args.line
    self.core c.try_get-got.new.core c.args.manager.now c.try_get-got.new.manager self.out.items self.blocks self.queries (policy_with self.customizer self.check) c.requires self.core.slots c.in-Ok.connection refl c.in-Ok.ensures.gets)

pub returns-in-Ok-clause-steps : goal.returns-in-Ok-clause-steps
returns-in-Ok-clause-steps g c =
    let view = g.C.SimpleConnection.view in
    let held = g.K.Connector.held in
    let self = c.args.self.now in
    let policy = policy_with self.customizer self.check in
    let n = (view c.in-Ok.connection.connection).seen.number in
    let m : Managed = managed (held c.try_get-got.new.manager.connector.now) c.try_get-got.new.manager.dialect c.try_get-got.new.manager.database_url in
    let core = c.try_get-got.new.core in
    let there = λ (l : List (Option (PooledConnection _))). slice_set l n (Some c.in-Ok.connection) in
    let is : world_at view c.put_out.new.self (held c.try_get-got.new.manager.connector.now) c.try_get-got.new.manager.dialect c.try_get-got.new.manager.database_url ≡ world_from view core (there (filled_to m.connector.opened self.out.items)) self.blocks self.queries policy m =
    ap (λ s. world_at view s (held c.try_get-got.new.manager.connector.now) c.try_get-got.new.manager.dialect c.try_get-got.new.manager.database_url) c.put_out.ensures.rest
    ∙ ap (λ (l : List (Option (PooledConnection _))). world_from view c.fill_places.new.self.core l c.fill_places.new.self.blocks c.fill_places.new.self.queries (policy_with c.fill_places.new.self.customizer c.fill_places.new.self.check) m) c.put_out.ensures.out
    ∙ ap (λ s. world_from view s.core (there c.fill_places.new.self.out.items) s.blocks s.queries (policy_with s.customizer s.check) m) c.fill_places.ensures.rest
    ∙ ap (λ (l : List (Option (PooledConnection _))). world_from view core (there l) self.blocks self.queries policy m) (c.fill_places.ensures.out ∙ ap (filled_to m.connector.opened) c.in_ok-reserve.ensures.items) in
    subst (λ (w : World). Steps g.K.Connector.is_honest c.args.line Get (world_at view self (held c.args.manager.now.connector.now) c.args.manager.now.dialect c.args.manager.now.database_url) w (Ok c.entry_on-entry.result)) (sym is)
    (got_ok (λ m. managed (held m.connector.now) m.dialect m.database_url) view g.K.Connector.is_honest g.C.SimpleConnection.is_honest (λ h. g.met.C.Establish.same_honesty ∙ g.met.K.Connector.opens_honest h) c.args.line
    self.core core c.args.manager.now c.try_get-got.new.manager self.out.items self.blocks self.queries policy c.requires self.core.slots c.in-Ok.connection c.entry_on-entry.result refl c.in-Ok.ensures.gets c.entry_on-entry.ensures)

pub returns-in-Err-clause-steps : goal.returns-in-Err-clause-steps
returns-in-Err-clause-steps g c =
    let view = g.C.SimpleConnection.view in
    let held = g.K.Connector.held in
    let self = c.args.self.now in
    let policy = policy_with self.customizer self.check in
    let m : Managed = managed (held c.try_get-got.new.manager.connector.now) c.try_get-got.new.manager.dialect c.try_get-got.new.manager.database_url in
    let core = c.try_get-got.new.core in
    let is : world_at view c.fill_places.new.self (held c.try_get-got.new.manager.connector.now) c.try_get-got.new.manager.dialect c.try_get-got.new.manager.database_url ≡ world_from view core (filled_to m.connector.opened self.out.items) self.blocks self.queries policy m =
    ap (λ s. world_at view s (held c.try_get-got.new.manager.connector.now) c.try_get-got.new.manager.dialect c.try_get-got.new.manager.database_url) c.fill_places.ensures.rest
    ∙ ap (λ (l : List (Option (PooledConnection _))). world_from view core l self.blocks self.queries policy m) (c.fill_places.ensures.out ∙ ap (filled_to m.connector.opened) c.in_ok-reserve.ensures.items) in
    subst (λ (w : World). Steps g.K.Connector.is_honest c.args.line Get (world_at view self (held c.args.manager.now.connector.now) c.args.manager.now.dialect c.args.manager.now.database_url) w c.unserved.result) (sym is)
    (got_err (λ m. managed (held m.connector.now) m.dialect m.database_url) view g.K.Connector.is_honest g.C.SimpleConnection.is_honest (λ h. g.met.C.Establish.same_honesty ∙ g.met.K.Connector.opens_honest h) c.args.line
    self.core core c.args.manager.now c.try_get-got.new.manager self.out.items self.blocks self.queries policy c.requires self.core.slots c.in-Err.error c.unserved.result refl c.in-Err.ensures.gets c.unserved.ensures)
