use Rattle.std.proofs.Common.{◌≡◌, rules, ap, sym, subst, List, [], ◌∷◌, ℕ, Ok, Err}
use Rattle.std.specs.Prelude.{codes}
use Rattle.conn_manager.specs.Manages.{done}
use Rattle.conn_manager.specs.Setups.{setup_texts}
use Rattle.conn_drivers.specs.Wires.{Executes}
use Rattle.conn_drivers.proofs.Executed.{executes_refused, executes_first, executes_last}
use Rattle.conn_drivers.proofs.wire.Wire.set_up_mysql.Goals as goal

pub returns-in_err-execute : goal.returns-in_err-execute
returns-in_err-execute g c =
    let S = g.S.Server in
    let is : c.execute.result ≡ Err c.in_err-execute.field-0.0 = search rules in
    let answers : c.from_residual.result ≡ Err c.in_err-execute.field-0.0 = search rules in
    let new = c.execute.new.self in
    subst (λ (ts : List (List ℕ)). Executes S.is_honest ts (S.seen c.args.self.now.server) (S.seen new.server) c.args.self.now.status (done c.from_residual.result new.status)) (sym (ap setup_texts c.requires.dialect))
    (rw answers (executes_refused S.is_honest (codes "SET time_zone = '+00:00';") (codes "SET character_set_client = 'utf8mb4'" ∷ codes "SET character_set_connection = 'utf8mb4'" ∷ codes "SET character_set_results = 'utf8mb4'" ∷ []) (S.seen c.args.self.now.server) (S.seen new.server) c.args.self.now.status new.status c.execute.result c.in_err-execute.field-0.0 is c.execute.ensures))

pub returns-in_err-execute-2 : goal.returns-in_err-execute-2
returns-in_err-execute-2 g c =
    let S = g.S.Server in
    let ok1 : c.execute.result ≡ Ok tt = search rules in
    let is : c.execute-2.result ≡ Err c.in_err-execute-2.field-0.0 = search rules in
    let answers : c.from_residual-in_err-execute-2.result ≡ Err c.in_err-execute-2.field-0.0 = search rules in
    let new = c.execute-2.new.self in
    subst (λ (ts : List (List ℕ)). Executes S.is_honest ts (S.seen c.args.self.now.server) (S.seen new.server) c.args.self.now.status (done c.from_residual-in_err-execute-2.result new.status)) (sym (ap setup_texts c.requires.dialect))
    (rw answers (executes_first S.is_honest (codes "SET time_zone = '+00:00';") (codes "SET character_set_client = 'utf8mb4'" ∷ codes "SET character_set_connection = 'utf8mb4'" ∷ codes "SET character_set_results = 'utf8mb4'" ∷ []) (S.seen c.args.self.now.server) (S.seen c.execute.new.self.server) (S.seen new.server) c.args.self.now.status c.execute.new.self.status c.execute.result (done (Err c.in_err-execute-2.field-0.0) new.status) ok1 c.execute.ensures
    (executes_refused S.is_honest (codes "SET character_set_client = 'utf8mb4'") (codes "SET character_set_connection = 'utf8mb4'" ∷ codes "SET character_set_results = 'utf8mb4'" ∷ []) (S.seen c.execute.new.self.server) (S.seen new.server) c.execute.new.self.status new.status c.execute-2.result c.in_err-execute-2.field-0.0 is c.execute-2.ensures)))

pub returns-in_err-execute-3 : goal.returns-in_err-execute-3
returns-in_err-execute-3 g c =
    let S = g.S.Server in
    let ok1 : c.execute.result ≡ Ok tt = search rules in
    let ok2 : c.execute-2.result ≡ Ok tt = search rules in
    let is : c.execute-3.result ≡ Err c.in_err-execute-3.field-0.0 = search rules in
    let answers : c.from_residual-in_err-execute-3.result ≡ Err c.in_err-execute-3.field-0.0 = search rules in
    let new = c.execute-3.new.self in
    subst (λ (ts : List (List ℕ)). Executes S.is_honest ts (S.seen c.args.self.now.server) (S.seen new.server) c.args.self.now.status (done c.from_residual-in_err-execute-3.result new.status)) (sym (ap setup_texts c.requires.dialect))
    (rw answers (executes_first S.is_honest (codes "SET time_zone = '+00:00';") (codes "SET character_set_client = 'utf8mb4'" ∷ codes "SET character_set_connection = 'utf8mb4'" ∷ codes "SET character_set_results = 'utf8mb4'" ∷ []) (S.seen c.args.self.now.server) (S.seen c.execute.new.self.server) (S.seen new.server) c.args.self.now.status c.execute.new.self.status c.execute.result (done (Err c.in_err-execute-3.field-0.0) new.status) ok1 c.execute.ensures
    (executes_first S.is_honest (codes "SET character_set_client = 'utf8mb4'") (codes "SET character_set_connection = 'utf8mb4'" ∷ codes "SET character_set_results = 'utf8mb4'" ∷ []) (S.seen c.execute.new.self.server) (S.seen c.execute-2.new.self.server) (S.seen new.server) c.execute.new.self.status c.execute-2.new.self.status c.execute-2.result (done (Err c.in_err-execute-3.field-0.0) new.status) ok2 c.execute-2.ensures
    (executes_refused S.is_honest (codes "SET character_set_connection = 'utf8mb4'") (codes "SET character_set_results = 'utf8mb4'" ∷ []) (S.seen c.execute-2.new.self.server) (S.seen new.server) c.execute-2.new.self.status new.status c.execute-3.result c.in_err-execute-3.field-0.0 is c.execute-3.ensures))))

pub returns : goal.returns
returns g c =
    let S = g.S.Server in
    let ok1 : c.execute.result ≡ Ok tt = search rules in
    let ok2 : c.execute-2.result ≡ Ok tt = search rules in
    let ok3 : c.execute-3.result ≡ Ok tt = search rules in
    let new = c.execute-4.new.self in
    subst (λ (ts : List (List ℕ)). Executes S.is_honest ts (S.seen c.args.self.now.server) (S.seen new.server) c.args.self.now.status (done c.execute-4.result new.status)) (sym (ap setup_texts c.requires.dialect))
    (executes_first S.is_honest (codes "SET time_zone = '+00:00';") (codes "SET character_set_client = 'utf8mb4'" ∷ codes "SET character_set_connection = 'utf8mb4'" ∷ codes "SET character_set_results = 'utf8mb4'" ∷ []) (S.seen c.args.self.now.server) (S.seen c.execute.new.self.server) (S.seen new.server) c.args.self.now.status c.execute.new.self.status c.execute.result (done c.execute-4.result new.status) ok1 c.execute.ensures
    (executes_first S.is_honest (codes "SET character_set_client = 'utf8mb4'") (codes "SET character_set_connection = 'utf8mb4'" ∷ codes "SET character_set_results = 'utf8mb4'" ∷ []) (S.seen c.execute.new.self.server) (S.seen c.execute-2.new.self.server) (S.seen new.server) c.execute.new.self.status c.execute-2.new.self.status c.execute-2.result (done c.execute-4.result new.status) ok2 c.execute-2.ensures
    (executes_first S.is_honest (codes "SET character_set_connection = 'utf8mb4'") (codes "SET character_set_results = 'utf8mb4'" ∷ []) (S.seen c.execute-2.new.self.server) (S.seen c.execute-3.new.self.server) (S.seen new.server) c.execute-2.new.self.status c.execute-3.new.self.status c.execute-3.result (done c.execute-4.result new.status) ok3 c.execute-3.ensures
    (executes_last S.is_honest (codes "SET character_set_results = 'utf8mb4'") (S.seen c.execute-3.new.self.server) (S.seen new.server) c.execute-3.new.self.status new.status c.execute-4.result c.execute-4.ensures))))
