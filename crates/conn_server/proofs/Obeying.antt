-- One item more, and the log obeys the orders still.
use Rattle.std.proofs.Common.{◌≡◌, ℕ, suc, ◌+◌, Bool, true, false, if◌then◌else◌, List, [], ◌∷◌, ◌++◌, length, Option, Some, None, refl, ap, ◌∙◌, arith}
use Rattle.std.specs.Option.{option_and_then, option_map}
use Rattle.conn_model.specs.Obeyed.{Obeys, obeyed, obedient, ordered, wished, is_fetch, is_lost}
use Rattle.conn_model.specs.Places.{map_state, place_steps, text_at, state_of-places}
use Rattle.conn_model.specs.States.{StateOf, State, Idle, Open, Lost, TransactionOf, step, steps, state_of, commits}
use Rattle.conn_model.specs.declared.item.Answer.{Answer}
use Rattle.conn_model.specs.declared.item.Answer.TheVariants.{Refused}
use Rattle.conn_model.specs.declared.item.Call.{Call}
use Rattle.conn_model.specs.declared.item.Call.TheVariants.{Fetch}
use Rattle.conn_model.specs.declared.item.Dialect.{Dialect}
use Rattle.conn_model.specs.declared.item.Effect.{Effect}
use Rattle.conn_model.specs.declared.item.Item.{Item}
use Rattle.conn_model.specs.declared.plan.Order.{Order}
use Rattle.conn_model.specs.declared.plan.Wish.{Wish}
use Rattle.conn_model.specs.declared.plan.Wish.TheVariants.{Stay, End, Lose}
use Rattle.conn_result.specs.declared.error.DatabaseErrorKind.{DatabaseErrorKind}
use Rattle.conn_server.specs.Answering.{answer_by}
use Rattle.conn_server.specs.Moves.{phase_of}
use Rattle.conn_server.specs.Refusals.{effect_of, order_in}
use Rattle.conn_server.specs.declared.standing.Phase.TheVariants as phase

obedient-push : (d : Dialect) (orders : ℕ → Option Order) (s : Option State) (n : ℕ) (xs : List Item) (i : Item)
    → obedient d orders s n (xs ++ i ∷ []) ≡ obedient d orders s n xs ++ obeyed d (orders (suc (n + length xs))) (steps d s xs) i ∷ []
obedient-push d orders s n [] i = ap (λ (m : ℕ). obeyed d (orders (suc m)) s i ∷ []) (omega arith)
obedient-push d orders s n (x ∷ xs) i =
    let next = option_and_then (λ (s : State). step d s x) s in
    ap (λ (r : List Item). obeyed d (orders (suc n)) s x ∷ r) (obedient-push d orders next (suc n) xs i
    ∙ ap (λ (m : ℕ). obedient d orders next (suc n) xs ++ obeyed d (orders (suc m)) (steps d next xs) i ∷ []) (omega arith))

obeys_push : (d : Dialect) (orders : ℕ → Option Order) (items : List Item) (i : Item) → Obeys d orders items → obeyed d (orders (length items + 1)) (state_of d items) i ≡ i → Obeys d orders (items ++ i ∷ [])
obeys_push d orders items i h one =
    obedient-push d orders (Some (Idle [])) 0 items i
    ∙ ap (λ (xs : List Item). xs ++ obeyed d (orders (suc (0 + length items))) (state_of d items) i ∷ []) h
    ∙ ap (λ (m : ℕ). items ++ obeyed d (orders m) (state_of d items) i ∷ []) (omega arith)
    ∙ ap (λ (x : Item). items ++ x ∷ []) one

state_is : (d : Dialect) (items : List Item) (s : StateOf ℕ) → place_steps d (Some (Idle [])) 0 items ≡ Some s → state_of d items ≡ Some (map_state (text_at items) s)
state_is d items s h = state_of-places d items ∙ ap (option_map (map_state (text_at items))) h

open_wished : (d : Dialect) (t : TransactionOf ℕ) (f : ℕ → List ℕ) (b : Bool) (k : DatabaseErrorKind) (w : Wish) (a : Bool) → wished d (map_state f (Open t)) b k w ≡ effect_of d (if a then phase.Aborted else phase.Open) b k w
open_wished d t f b k Stay true = refl
open_wished d t f b k Stay false = refl
open_wished d t f b k End true = refl
open_wished d t f b k End false = refl
open_wished d t f b k Lose true = refl
open_wished d t f b k Lose false = refl

idle_wished : (d : Dialect) (ws : List ℕ) (f : ℕ → List ℕ) (b : Bool) (k : DatabaseErrorKind) (w : Wish) → wished d (map_state f (Idle ws)) b k w ≡ effect_of d phase.Idle b k w
idle_wished d ws f b k Stay = refl
idle_wished d ws f b k End = refl
idle_wished d ws f b k Lose = refl

-- the answer of a server in memory to what asks for no row is the one that the order has, where there is one
answered_obeyed : (d : Dialect) (o : Option Order) (s : StateOf ℕ) (f : ℕ → List ℕ) (call : Call) (text : List ℕ) (accepted : Bool) → is_fetch call ≡ false
    → let i : Item = record { call = call; text = text; answer = answer_by d (phase_of s) accepted (commits call text) (order_in (phase_of s) o) } in obeyed d o (Some (map_state f s)) i ≡ i
answered_obeyed d None s f call text accepted asks = refl
answered_obeyed d (Some order) s f call text accepted asks =
    let I : Type 0 = Item in
    let i : I = record { call = call; text = text; answer = answer_by d (phase_of s) accepted (commits call text) (order_in (phase_of s) (Some order)) } in
    let other : I = if is_lost (map_state f s) then i else record { call = call; text = text; answer = Refused (ordered d order) (wished d (map_state f s) (commits call text) (ordered d order).kind order.wish) } in
    ap (λ (b : Bool). if b then i else other) asks ∙ by_order s
  where
    by_aborted : (t : TransactionOf ℕ) (a : Bool) → let I : Type 0 = Item in let x : I = record { call = call; text = text; answer = Refused (ordered d order) (wished d (map_state f (Open t)) (commits call text) (ordered d order).kind order.wish) } in
        let y : I = record { call = call; text = text; answer = answer_by d (if a then phase.Aborted else phase.Open) accepted (commits call text) (order_in (if a then phase.Aborted else phase.Open) (Some order)) } in x ≡ y
    by_aborted t true = ap (λ (e : Effect). record { call = call; text = text; answer = Refused (ordered d order) e }) (open_wished d t f (commits call text) (ordered d order).kind order.wish true)
    by_aborted t false = ap (λ (e : Effect). record { call = call; text = text; answer = Refused (ordered d order) e }) (open_wished d t f (commits call text) (ordered d order).kind order.wish false)

    by_order : (s : StateOf ℕ) → let I : Type 0 = Item in let i : I = record { call = call; text = text; answer = answer_by d (phase_of s) accepted (commits call text) (order_in (phase_of s) (Some order)) } in
        (if is_lost (map_state f s) then i else record { call = call; text = text; answer = Refused (ordered d order) (wished d (map_state f s) (commits call text) (ordered d order).kind order.wish) }) ≡ i
    by_order (Idle ws) = ap (λ (e : Effect). record { call = call; text = text; answer = Refused (ordered d order) e }) (idle_wished d ws f (commits call text) (ordered d order).kind order.wish)
    by_order (Open t) = by_aborted t t.aborted
    by_order (Lost ws) = refl

pub answered_obeys : (d : Dialect) (orders : ℕ → Option Order) (items : List Item) (s : StateOf ℕ) (call : Call) (text : List ℕ) (accepted : Bool) → is_fetch call ≡ false → place_steps d (Some (Idle [])) 0 items ≡ Some s → Obeys d orders items
    → Obeys d orders (items ++ record { call = call; text = text; answer = answer_by d (phase_of s) accepted (commits call text) (order_in (phase_of s) (orders (length items + 1))) } ∷ [])
answered_obeys d orders items s call text accepted asks lawful h =
    let i : Item = record { call = call; text = text; answer = answer_by d (phase_of s) accepted (commits call text) (order_in (phase_of s) (orders (length items + 1))) } in
    obeys_push d orders items i h
    (ap (λ (o : Option State). obeyed d (orders (length items + 1)) o i) (state_is d items s lawful) ∙ answered_obeyed d (orders (length items + 1)) s (text_at items) call text accepted asks)

fetch_obeyed : (d : Dialect) (o : Option Order) (s : Option State) (answer : Answer) → let i : Item = record { call = Fetch; text = []; answer = answer } in obeyed d o s i ≡ i
fetch_obeyed d None s answer = refl
fetch_obeyed d (Some order) None answer = refl
fetch_obeyed d (Some order) (Some s) answer = refl

-- no order is for a row
pub fetched_obeys : (d : Dialect) (orders : ℕ → Option Order) (items : List Item) (answer : Answer) → Obeys d orders items → Obeys d orders (items ++ record { call = Fetch; text = []; answer = answer } ∷ [])
fetched_obeys d orders items answer h = obeys_push d orders items (record { call = Fetch; text = []; answer = answer }) h (fetch_obeyed d (orders (length items + 1)) (state_of d items) answer)
