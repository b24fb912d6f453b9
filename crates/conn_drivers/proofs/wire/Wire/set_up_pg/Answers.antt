use Rattle.std.proofs.Common.{◌≡◌, rules, ap, sym, subst, List, [], ◌∷◌, ℕ, Ok, Err}
use Rattle.std.specs.Prelude.{codes}
use Rattle.conn_manager.specs.Manages.{done}
use Rattle.conn_manager.specs.Setups.{setup_texts}
use Rattle.conn_drivers.specs.Wires.{Executes}
use Rattle.conn_drivers.proofs.Executed.{executes_refused, executes_first, executes_last}
use Rattle.conn_drivers.proofs.wire.Wire.set_up_pg.Goals as goal

pub returns-in_err-execute : goal.returns-in_err-execute
returns-in_err-execute g c =
    let S = g.S.Server in
    let old = S.seen c.args.self.now.server in
    let e = c.in_err-execute.field-0.0 in
    let is : c.execute.result ≡ Err e = search rules in
    let answers : c.from_residual.result ≡ Err e = search rules in
    let new = c.execute.new.self in
    subst (λ (ts : List (List ℕ)). Executes S.is_honest ts old (S.seen new.server) c.args.self.now.status (done c.from_residual.result new.status)) (sym (ap setup_texts c.requires.dialect))
    (rw answers (executes_refused S.is_honest (codes "SET TIME ZONE 'UTC'") (codes "SET CLIENT_ENCODING TO 'UTF8'" ∷ []) old (S.seen new.server) c.args.self.now.status new.status c.execute.result e is c.execute.ensures))

pub returns : goal.returns
returns g c =
    let S = g.S.Server in
    let old = S.seen c.args.self.now.server in
    let is : c.execute.result ≡ Ok tt = search rules in
    let mid = c.execute.new.self in
    let new = c.execute-2.new.self in
    subst (λ (ts : List (List ℕ)). Executes S.is_honest ts old (S.seen new.server) c.args.self.now.status (done c.execute-2.result new.status)) (sym (ap setup_texts c.requires.dialect))
    (executes_first S.is_honest (codes "SET TIME ZONE 'UTC'") (codes "SET CLIENT_ENCODING TO 'UTF8'" ∷ []) old (S.seen mid.server) (S.seen new.server) c.args.self.now.status mid.status c.execute.result (done c.execute-2.result new.status) is c.execute.ensures
    (executes_last S.is_honest (codes "SET CLIENT_ENCODING TO 'UTF8'") (S.seen mid.server) (S.seen new.server) mid.status new.status c.execute-2.result c.execute-2.ensures))
