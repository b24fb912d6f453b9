-- What a query answers.
use Rattle.std.specs.Prelude.{ℕ, List, Bool, Option}
use Rattle.conn_model.specs.declared.value.Bind.{Bind}
use Rattle.conn_model.specs.declared.value.BindType.{BindType}

-- its text, the types and values of its binds, whether its statement may be kept, whether it has anything to do, its number
pub record QueryView : Type 0 where
  pub sql : List ℕ
  pub types : List BindType
  pub binds : List Bind
  pub is_safe : Bool
  pub has_changes : Bool
  pub id : Option ℕ
