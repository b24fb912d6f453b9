-- What a server's log is where its orders are obeyed.
use Rattle.std.specs.Prelude.{◌≡◌, ℕ, suc, Bool, true, false, List, [], ◌∷◌, if◌then◌else◌, Option, Some, None}
use Rattle.std.specs.Option.{option_and_then}
use Rattle.conn_model.specs.Kinds.{mysql_kind, sqlite_kind}
use Rattle.conn_model.specs.States.{StateOf, State, Idle, Open, Lost, commits, is_serialization_failure, step}
use Rattle.conn_model.specs.declared.item.Answer.TheVariants.{Refused}
use Rattle.conn_model.specs.declared.item.Call.{Call}
use Rattle.conn_model.specs.declared.item.Call.TheVariants.{Exec, Prepare, Run, Fetch}
use Rattle.conn_model.specs.declared.item.Dialect.{Dialect}
use Rattle.conn_model.specs.declared.item.Dialect.TheVariants.{Pg, Mysql, Sqlite}
use Rattle.conn_model.specs.declared.item.Effect.{Effect}
use Rattle.conn_model.specs.declared.item.Effect.TheVariants.{Stays, Aborts, Ends, Loses}
use Rattle.conn_model.specs.declared.item.Item.{Item}
use Rattle.conn_model.specs.declared.item.Refusal.{Refusal}
use Rattle.conn_model.specs.declared.plan.Order.{Order}
use Rattle.conn_model.specs.declared.plan.Wish.{Wish}
use Rattle.conn_model.specs.declared.plan.Wish.TheVariants.{Stay, End, Lose}
use Rattle.conn_result.specs.declared.error.DatabaseErrorKind.{DatabaseErrorKind}

-- a refusal that is to leave the transaction open where that can be
abbrev pub stay_in : Dialect → Bool → Effect
stay_in Pg commits = if commits then Ends else Aborts
stay_in Mysql commits = Stays
stay_in Sqlite commits = Stays

-- a refusal that is to end the transaction where that can be
abbrev pub end_in : Dialect → DatabaseErrorKind → Effect
end_in Pg kind = Ends
end_in Mysql kind = if is_serialization_failure kind then Ends else Stays
end_in Sqlite kind = Ends

-- the effect of a wish on an item that commits or not, refused with this kind
abbrev pub wished : {A : Type 0} → Dialect → StateOf A → Bool → DatabaseErrorKind → Wish → Effect
wished d (Idle w) commits kind Stay = Stays
wished d (Idle w) commits kind End = Stays
wished d (Idle w) commits kind Lose = Loses
wished d (Open t) commits kind Stay = stay_in d commits
wished d (Open t) commits kind End = end_in d kind
wished d (Open t) commits kind Lose = Loses
wished d (Lost w) commits kind wish = Stays

-- the server is lost
abbrev pub is_lost : {A : Type 0} → StateOf A → Bool
is_lost (Idle w) = false
is_lost (Open t) = false
is_lost (Lost w) = true

-- the refusal of an order: MySQL and SQLite go by the code, whatever kind was ordered
abbrev pub ordered : Dialect → Order → Refusal
ordered Pg order = record { code = order.code; kind = order.kind }
ordered Mysql order = record { code = order.code; kind = mysql_kind order.code }
ordered Sqlite order = record { code = order.code; kind = sqlite_kind order.code }

-- the call asks for a row
abbrev pub is_fetch : Call → Bool
is_fetch Fetch = true
is_fetch Exec = false
is_fetch (Prepare name) = false
is_fetch (Run binds) = false

-- an item with the answer that the order for it has in this state; a lost server looks at no orders, and none is for a row
abbrev pub obeyed : Dialect → Option Order → Option State → Item → Item
obeyed d None s i = i
obeyed d (Some order) None i = i
obeyed d (Some order) (Some s) i = if is_fetch i.call then i else if is_lost s then i else record i { answer = Refused (ordered d order) (wished d s (commits i.call i.text) (ordered d order).kind order.wish) }

-- items with the answers that the orders for them have, from a state and a place on
abbrev pub obedient : Dialect → (ℕ → Option Order) → Option State → ℕ → List Item → List Item
obedient d orders s n [] = []
obedient d orders s n (i ∷ is) = obeyed d (orders (suc n)) s i ∷ obedient d orders (option_and_then (λ (s : State). step d s i) s) (suc n) is

-- Obeys: each item of a log that is ordered to be refused is refused so
abbrev pub Obeys : Dialect → (ℕ → Option Order) → List Item → Type 0
Obeys d orders items = obedient d orders (Some (Idle [])) 0 items ≡ items
