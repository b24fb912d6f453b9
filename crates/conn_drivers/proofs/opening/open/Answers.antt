use Rattle.std.proofs.Common.{◌≡◌, rules, Ok, sym, ◌∙◌, subst, Result}
use Rattle.conn_result.specs.declared.error.ConnectionError.{ConnectionError}
use Rattle.conn_manager.specs.Manages.{Reply, done}
use Rattle.conn_drivers.specs.Establishing.{OpensAt, OpensServer}
use Rattle.conn_drivers.specs.Wires.{IsSetUp}
use Rattle.conn_drivers.proofs.Endings.{sets_up}
use Rattle.conn_drivers.proofs.opening.open.Goals as goal

pub returns-in-Ok : goal.returns-in-Ok
returns-in-Ok g c =
    let S = g.S.Server in
    let K = g.K.Connector in
    let server = c.in_ok-connect.field-0 in
    let wire = c.new-wire.result in
    let roomy = c.take_setup_room.new.self in
    let last = c.set_up.new.self in
    let old = K.held c.args.connector.now in
    let left = K.held c.connect.new.connector in
    let is : c.connect.result ≡ Ok server = search rules in
    let opened : OpensAt K.is_honest S.is_honest c.args.dialect c.args.database_url.now old left (S.seen server) =
    subst (λ (r : Result _ ConnectionError). OpensServer K.is_honest S.is_honest c.args.dialect c.args.database_url.now old S.seen left r) is c.connect.ensures in
    let here : OpensAt K.is_honest S.is_honest c.args.dialect c.args.database_url.now old left (S.seen wire.server) =
    subst (λ (s : _). OpensAt K.is_honest S.is_honest c.args.dialect c.args.database_url.now old left (S.seen s)) (sym c.new-wire.ensures.server) opened in
    sets_up K.is_honest S.is_honest c.args.dialect c.args.database_url.now old left (S.seen wire.server) (S.seen roomy.server) (S.seen last.server) roomy.status (done (Ok tt) last.status) here c.take_setup_room.ensures.keeps
    (c.take_setup_room.ensures.status ∙ c.new-wire.ensures.status)
    (subst (λ (r : Reply). IsSetUp S.is_honest (S.seen roomy.server) (S.seen last.server) roomy.status (done r last.status)) c.in-Ok.is c.set_up.ensures)
    (λ e. (g.met.S.Server.honesty e wire.server, g.met.S.Server.honesty e last.server))
