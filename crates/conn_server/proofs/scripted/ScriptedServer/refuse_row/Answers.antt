use Rattle.std.proofs.Common.{◌≡◌, ◌∙◌, ◌+◌, ◌-◌, ◌^◌, ◌<◌, ◌≤◌, min, false, [], ◌∷◌, ◌++◌, length, Some, None, ap, sym, subst, arith}
use Rattle.std.proofs.lemmas.List.{length_push}
use Rattle.conn_model.specs.Rows.{RefusesRow}
use Rattle.conn_model.specs.declared.item.Answer.{Answer}
use Rattle.conn_model.specs.declared.item.Call.TheVariants.{Fetch}
use Rattle.conn_model.specs.declared.item.Item.{Item}
use Rattle.conn_server.specs.Answering.{failures_after}
use Rattle.conn_server.specs.Feeds.{fed_out, kept_back}
use Rattle.conn_server.specs.Firsts.{seen_scripted}
use Rattle.conn_server.specs.Moves.{phase_of}
use Rattle.conn_server.specs.Ordered.{order_of, is_none_ordered}
use Rattle.conn_server.specs.Refusals.{effect_of}
use Rattle.conn_server.specs.Scripted.{seen_of}
use Rattle.conn_server.specs.declared.feed.Feed.{Feed}
use Rattle.conn_server.proofs.Taking.{Fetched, fetched, row_ordered, same_parts}
use Rattle.conn_server.proofs.scripted.ScriptedServer.refuse_row.Goals as goal

pub push_fetch-requires : goal.push_fetch-requires
push_fetch-requires c =
    let s = c.args.self.now in
    let ordered = row_ordered s s.feed.run c.args.order c.requires in
    omega (arith, ordered.back, s.has_items)

pub invariant_of-self-clause-lawful : goal.invariant_of-self-clause-lawful
invariant_of-self-clause-lawful c =
    let s = c.args.self.now in
    let items = s.log.items in
    let r = c.ordered-refusal.result in
    let e = effect_of s.dialect (phase_of s.standing.state) false r.kind c.args.order.wish in
    let a = c.refuse-answer.result in
    let row : Fetched s.dialect s.orders items c.refuse-answer.new.standing.state a =
    fetched s.dialect s.orders items s.standing.state c.refuse-answer.new.standing.state r e a c.refuse-answer.ensures.answer s.lawful s.obeys (c.refuse-answer.ensures.state (length items)) in
    rw c.push_fetch.ensures.items row.lawful

pub invariant_of-self-clause-obeys : goal.invariant_of-self-clause-obeys
invariant_of-self-clause-obeys c =
    let s = c.args.self.now in
    let items = s.log.items in
    let r = c.ordered-refusal.result in
    let e = effect_of s.dialect (phase_of s.standing.state) false r.kind c.args.order.wish in
    let a = c.refuse-answer.result in
    let row : Fetched s.dialect s.orders items c.refuse-answer.new.standing.state a =
    fetched s.dialect s.orders items s.standing.state c.refuse-answer.new.standing.state r e a c.refuse-answer.ensures.answer s.lawful s.obeys (c.refuse-answer.ensures.state (length items)) in
    rw c.push_fetch.ensures.items row.obeys

pub invariant_of-self-clause-feeds : goal.invariant_of-self-clause-feeds
invariant_of-self-clause-feeds c = rw c.push_fetch.ensures.last

pub invariant_of-self-clause-at_row : goal.invariant_of-self-clause-at_row
invariant_of-self-clause-at_row c = rw (c.push_fetch.ensures.last, c.end.ensures)

pub invariant_of-self-clause-within : goal.invariant_of-self-clause-within
invariant_of-self-clause-within c = subst (λ (f : Feed). f.cursor ≤ length f.rows) (sym c.end.ensures) (omega arith)

pub invariant_of-self-clause-few : goal.invariant_of-self-clause-few
invariant_of-self-clause-few c = subst (λ (f : Feed). f.given + 1 < 2 ^ 64) (sym c.end.ensures) c.args.self.now.few

pub invariant_of-self-clause-has_items : goal.invariant_of-self-clause-has_items
invariant_of-self-clause-has_items c =
    let s = c.args.self.now in
    let ordered = row_ordered s s.feed.run c.args.order c.requires in
    let back : kept_back c.end.new.self.run ≡ 0 = ap (λ (f : Feed). kept_back f.run) c.end.ensures in
    omega (arith, back, ordered.back, s.has_items, c.push_fetch.ensures.item_room)

pub returns-clause-refuses : goal.returns-clause-refuses
returns-clause-refuses c =
    let s = c.args.self.now in
    let items = s.log.items in
    let r = c.ordered-refusal.result in
    let e = effect_of s.dialect (phase_of s.standing.state) false r.kind c.args.order.wish in
    let a = c.refuse-answer.result in
    let log = c.push_fetch.new.self in
    let state = c.refuse-answer.new.standing.state in
    let is = c.refuse-answer.ensures.answer in
    let ordered = row_ordered s s.feed.run c.args.order c.requires in
    let item : Item = record { call = Fetch; text = []; answer = a } in
    let size : length log.items ≡ length items + 1 = ap length c.push_fetch.ensures.items ∙ length_push items item in
    let fails : c.failures_after-self.result ≡ min (s.failures + 1) (2 ^ 64 - 1) = c.failures_after-self.ensures.counts ∙ ap (failures_after s.failures) is in
    subst (λ (f : Feed). RefusesRow (seen_scripted s) (seen_of s.dialect s.number log state c.failures_after-self.result s.room.items s.room.bytes (is_none_ordered s.orders) (order_of s.orders) f) r) (sym c.end.ensures) (record {
      effect = e;
      log = ap Some (c.push_fetch.ensures.items ∙ ap (λ (x : Answer). items ++ record { call = Fetch; text = []; answer = x } ∷ []) is);
      sent = omega (arith, size, c.push_fetch.ensures.small);
      later = c.failures_after-self.ensures.rises;
      failed = omega (arith, fails);
      due = ordered.loud;
      keeps = same_parts s.dialect s.number log state c.failures_after-self.result s.room.items s.room.bytes (is_none_ordered s.orders) (order_of s.orders) (fed_out s.feed) s.log.statements None c.push_fetch.ensures.statements c.push_fetch.ensures.last;
    })
