-- What an honest server tells of its log.
use Rattle.std.proofs.Common.{◌≡◌, ℕ, List, [], length, Option, Some, sym, ap, ◌∙◌}
use Rattle.std.specs.Option.{option_map, option_and_then, unwrap_or}
use Rattle.conn_model.specs.Seen.{Seen, IsHonest}
use Rattle.conn_model.specs.States.{State, Idle, state_of}
use Rattle.conn_model.specs.declared.item.Dialect.{Dialect}
use Rattle.conn_model.specs.declared.item.Item.{Item}
use Rattle.conn_server.specs.Connected.{IsNew}
use Rattle.conn_session.specs.Responses.{state_told}

items_of : (s : Seen) (items : List Item) (h : IsHonest s) → s.log ≡ Some items → h.items ≡ items
items_of s items h log = (let e : Some h.items ≡ Some items = sym h.is_log ∙ log in cc)

pub state_of_log : (s : Seen) (items : List Item) → IsHonest s → s.log ≡ Some items → state_of s.dialect items ≡ Some (state_told s)
state_of_log s items h log =
    let lawful : state_of s.dialect items ≡ Some h.state = ap (state_of s.dialect) (sym (items_of s items h log)) ∙ h.lawful in
    let state : state_told s ≡ h.state = ap (λ (l : Option (List Item)). unwrap_or (option_and_then (λ (x : List Item). state_of s.dialect x) l) (Idle [])) log ∙ ap (λ (o : Option State). unwrap_or o (Idle [])) lawful in
    lawful ∙ ap (λ (x : State). Some x) (sym state)

pub sent_of_log : (s : Seen) (items : List Item) → IsHonest s → s.log ≡ Some items → s.sent ≡ length items
sent_of_log s items h log = h.counts ∙ ap length (items_of s items h log)

-- ---- of a server that was just opened

module _ (dialect : Dialect) (n : ℕ) (s : Seen) (honest : IsHonest s) (is_new : IsNew dialect n s) where
  pub new_log : s.log ≡ Some []
  new_log = is_new.log_is ∙ ap (option_map (λ (items : List Item). [])) honest.is_log

  pub new_state : state_told s ≡ Idle []
  new_state = let told : Some (Idle []) ≡ Some (state_told s) = state_of_log s [] honest new_log in cc told

  pub new_sent : s.sent ≡ 0
  new_sent = sent_of_log s [] honest new_log
