use Rattle.std.proofs.Common.{◌≡◌, ◌∙◌, ◌++◌, [], ◌∷◌, ℕ, List, ap, sym, arith, length, rules, append-nil, false, None, refl}
use Rattle.std.specs.Prelude.{string_bytes}
use Rattle.std.proofs.lemmas.Grind.{common_steps}
use Rattle.conn_model.specs.declared.item.Call.TheVariants as call
use Rattle.conn_server.specs.Logged.{Log, record_items}
use Rattle.conn_server.specs.declared.log.CallRecord.TheVariants.{Fetch}
use Rattle.conn_server.specs.declared.log.PlacedCall.{PlacedCall}
use Rattle.conn_server.specs.declared.log.Record.{Record}
use Rattle.conn_server.proofs.Logs.{Pushed, call_at-one, length-items, pushed_items, pushed_statements, pushed_log}
use Rattle.conn_server.proofs.log.ItemLog.push_fetch.Goals as goal

pub invariant_of-self : goal.invariant_of-self
invariant_of-self c =
    let old = c.self.inside in
    let xs = string_bytes old.buffer in
    let ys = string_bytes c.add_text-text.new.buffer in
    let bs = old.binds.binds in
    let cs = old.calls.items in
    let es = c.push.new.self.items in
    let rs = old.records.items in
    let qs = c.push-2.new.self.items in
    let place : c.len-place.result ≡ length rs = search rules in
    let k : PlacedCall = record { place = length rs; call = Fetch } in
    let r : Record = record { text = c.add_text-text.result; answer = c.args.answer; is_open = false } in
    let p : Pushed xs ys bs bs cs es rs qs r = record {
      texts = record { more = []; is = c.add_text-text.ensures.bytes };
      binds = record { more = []; is = sym (append-nil bs) };
      calls = record { more = k ∷ []; is = grind (arith, common_steps) };
      newest = (refl, tt);
      are = (tt, tt);
      records = grind (arith, common_steps);
      stands = c.add_text-text.ensures.stands;
    } in
    pushed_log xs ys bs bs cs es rs qs r p old.last c.self.invariant None tt

pub returns-clause-items : goal.returns-clause-items
returns-clause-items c =
    let old = c.self.inside in
    let xs = string_bytes old.buffer in
    let ys = string_bytes c.add_text-text.new.buffer in
    let bs = old.binds.binds in
    let cs = old.calls.items in
    let es = c.push.new.self.items in
    let rs = old.records.items in
    let qs = c.push-2.new.self.items in
    let place : c.len-place.result ≡ length rs = search rules in
    let k : PlacedCall = record { place = length rs; call = Fetch } in
    let r : Record = record { text = c.add_text-text.result; answer = c.args.answer; is_open = false } in
    let p : Pushed xs ys bs bs cs es rs qs r = record {
      texts = record { more = []; is = c.add_text-text.ensures.bytes };
      binds = record { more = []; is = sym (append-nil bs) };
      calls = record { more = k ∷ []; is = grind (arith, common_steps) };
      newest = (refl, tt);
      are = (tt, tt);
      records = grind (arith, common_steps);
      stands = c.add_text-text.ensures.stands;
    } in
    pushed_items xs ys bs bs cs es rs qs r p old.last c.self.invariant call.Fetch (call_at-one bs (length rs) Fetch)
    ∙ ap (λ (t : List ℕ). record_items xs bs cs 0 rs ++ record { call = call.Fetch; text = t; answer = c.args.answer } ∷ []) c.add_text-text.ensures.is
    ∙ ap (λ (l : Log). l.items ++ record { call = call.Fetch; text = []; answer = c.args.answer } ∷ []) c.self.view_is

pub returns-clause-statements : goal.returns-clause-statements
returns-clause-statements c =
    let old = c.self.inside in
    let xs = string_bytes old.buffer in
    let ys = string_bytes c.add_text-text.new.buffer in
    let bs = old.binds.binds in
    let cs = old.calls.items in
    let es = c.push.new.self.items in
    let rs = old.records.items in
    let qs = c.push-2.new.self.items in
    let place : c.len-place.result ≡ length rs = search rules in
    let k : PlacedCall = record { place = length rs; call = Fetch } in
    let r : Record = record { text = c.add_text-text.result; answer = c.args.answer; is_open = false } in
    let p : Pushed xs ys bs bs cs es rs qs r = record {
      texts = record { more = []; is = c.add_text-text.ensures.bytes };
      binds = record { more = []; is = sym (append-nil bs) };
      calls = record { more = k ∷ []; is = grind (arith, common_steps) };
      newest = (refl, tt);
      are = (tt, tt);
      records = grind (arith, common_steps);
      stands = c.add_text-text.ensures.stands;
    } in
    pushed_statements xs ys bs bs cs es rs qs r p old.last c.self.invariant ∙ ap (λ (l : Log). l.statements) c.self.view_is

pub returns-clause-small : goal.returns-clause-small
returns-clause-small c =
    let old = c.self.inside in
    let place : c.len-place.result ≡ length old.records.items = search rules in
    let size = sym (length-items (string_bytes old.buffer) old.binds.binds old.calls.items 0 old.records.items) ∙ ap (λ (l : Log). length l.items) c.self.view_is in
    omega (arith, place, size)
