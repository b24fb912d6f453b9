use Rattle.std.proofs.Common.{◌≡◌, ◌+◌, ◌∙◌, true, nat_lt, codes, rules, refl, inr, None, Some}
use Rattle.conn_model.specs.Events.{BeginTransaction}
use Rattle.conn_model.specs.Process.{Tell}
use Rattle.conn_manager.specs.Manages.{begin_with, begin_process, savepoint_text}
use Rattle.conn_manager.specs.Statuses.{valid}
use Rattle.conn_manager.proofs.Steps.{goes_as, room_first, event_first}
use Rattle.conn_manager.proofs.calls.begin.Goals as goal

pub returns-in_ok-reserve-in-None-clause-tells : goal.returns-in_ok-reserve-in-None-clause-tells
returns-in_ok-reserve-in-None-clause-tells g c =
    let C = g.C.SimpleConnection in
    let old = C.view c.args.conn.now in
    let room = C.view c.reserve.new.self in
    let told = C.view c.event.new.self in
    let new = C.view c.send_begin.new.conn in
    let is : old.status ≡ valid None = search rules in
    inr (goes_as C.is_honest (λ d s. Tell (BeginTransaction 1) (begin_with d (codes "BEGIN") s)) begin_process (valid None) old new c.send_begin.result is (λ d. refl)
    (room_first C.is_honest (λ d s. Tell (BeginTransaction 1) (begin_with d (codes "BEGIN") s)) old room new c.send_begin.result c.reserve.ensures.reserved.keeps c.reserve.ensures.same
    (event_first C.is_honest (BeginTransaction 1) (λ d. begin_with d (codes "BEGIN")) room told new c.send_begin.result c.event.ensures c.send_begin.ensures.tells)))

pub returns-in_ok-reserve-in-Some-clause-tells : goal.returns-in_ok-reserve-in-Some-clause-tells
returns-in_ok-reserve-in-Some-clause-tells g c =
    let C = g.C.SimpleConnection in
    let t = c.in-Some.t in
    let depth = t.transaction_depth in
    let text = c.as_str.result.now in
    let old = C.view c.args.conn.now in
    let room = C.view c.reserve-in-Some.new.self in
    let told = C.view c.event-in-Some.new.self in
    let new = C.view c.send_begin-in-Some.new.conn in
    let reply = c.send_begin-in-Some.result in
    let is : old.status ≡ valid (Some t) = search rules in
    let low : nat_lt depth 4294967295 ≡ true = search rules in
    let is_text : text ≡ savepoint_text depth = c.as_str.ensures.value ∙ c.savepoint_text.ensures.text in
    inr (goes_as C.is_honest (λ d s. Tell (BeginTransaction (depth + 1)) (begin_with d text s)) begin_process (valid (Some t)) old new reply is (λ d. rw (low, is_text) refl)
    (room_first C.is_honest (λ d s. Tell (BeginTransaction (depth + 1)) (begin_with d text s)) old room new reply c.reserve-in-Some.ensures.reserved.keeps c.reserve-in-Some.ensures.same
    (event_first C.is_honest (BeginTransaction (depth + 1)) (λ d. begin_with d text) room told new reply c.event-in-Some.ensures c.send_begin-in-Some.ensures.tells)))
