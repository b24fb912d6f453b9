-- One attempt more where the URL says.
use Rattle.std.proofs.Common.{◌≡◌, ℕ, List, Option, Some, None, Ok, sym, subst}
use Rattle.conn_model.specs.declared.item.Dialect.{Dialect}
use Rattle.conn_model.specs.declared.plan.Target.{Target}
use Rattle.conn_drivers.specs.Establishing.{AreAt, target_in}
use Rattle.conn_server.specs.Connected.{aimed}
use Rattle.conn_session.proofs.Totals.{all-last}

aimed_at : (d : Dialect) (url : List ℕ) (target : Target) (old : Option (List Target)) → target_in d url ≡ Ok target → AreAt d url old → AreAt d url (aimed target old)
aimed_at d url target None is at = tt
aimed_at d url target (Some ts) is at = all-last (λ (t : Target). target_in d url ≡ Ok t) ts target at is

pub aims : (d : Dialect) (url : List ℕ) (target : Target) (old new : Option (List Target)) → target_in d url ≡ Ok target → new ≡ aimed target old → AreAt d url old → AreAt d url new
aims d url target old new is e at = subst (AreAt d url) (sym e) (aimed_at d url target old is at)
