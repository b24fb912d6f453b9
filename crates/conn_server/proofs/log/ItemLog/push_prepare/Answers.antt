use Rattle.std.proofs.Common.{◌≡◌, ◌∙◌, ◌++◌, [], ◌∷◌, ℕ, List, ap, sym, arith, length, rules, append-nil, Bool, refl}
use Rattle.std.specs.Prelude.{string_bytes}
use Rattle.std.proofs.lemmas.Grind.{common_steps}
use Rattle.conn_model.specs.declared.item.Call.TheVariants as call
use Rattle.conn_server.specs.Logged.{Log, record_items, record_text, is_accepted, open_statements, statement_if, statements_from}
use Rattle.conn_server.specs.declared.log.CallRecord.TheVariants.{Prepare}
use Rattle.conn_server.specs.declared.log.PlacedCall.{PlacedCall}
use Rattle.conn_server.specs.declared.log.Record.{Record}
use Rattle.conn_server.proofs.Logs.{Pushed, call_at-one, length-items, pushed_items, pushed_statements, pushed_last, pushed_log, within_more}
use Rattle.conn_model.specs.Statements.{find_open}
use Rattle.conn_server.proofs.Statements.{none_past}
use Rattle.conn_server.proofs.log.ItemLog.push_prepare.Goals as goal

pub invariant_of-self : goal.invariant_of-self
invariant_of-self c =
    let old = c.self.inside in
    let xs = string_bytes old.buffer in
    let ys = string_bytes c.add_text-text.new.buffer in
    let bs = old.binds.binds in
    let cs = old.calls.items in
    let es = c.push.new.self.items in
    let rs = old.records.items in
    let qs = c.push-2.new.self.items in
    let place : c.len-place.result ≡ length rs = search rules in
    let k : PlacedCall = record { place = length rs; call = Prepare c.args.name } in
    let r : Record = record { text = c.add_text-text.result; answer = c.args.answer; is_open = c.is_accepted.result } in
    let p : Pushed xs ys bs bs cs es rs qs r = record {
      texts = record { more = c.args.text.now; is = c.add_text-text.ensures.bytes };
      binds = record { more = []; is = sym (append-nil bs) };
      calls = record { more = k ∷ []; is = grind (arith, common_steps) };
      newest = (refl, tt);
      are = (tt, tt);
      records = grind (arith, common_steps);
      stands = c.add_text-text.ensures.stands;
    } in
    pushed_log xs ys bs bs cs es rs qs r p old.last c.self.invariant old.last (within_more old.last (length rs) c.self.invariant.within)

pub returns-clause-items : goal.returns-clause-items
returns-clause-items c =
    let old = c.self.inside in
    let xs = string_bytes old.buffer in
    let ys = string_bytes c.add_text-text.new.buffer in
    let bs = old.binds.binds in
    let cs = old.calls.items in
    let es = c.push.new.self.items in
    let rs = old.records.items in
    let qs = c.push-2.new.self.items in
    let place : c.len-place.result ≡ length rs = search rules in
    let k : PlacedCall = record { place = length rs; call = Prepare c.args.name } in
    let r : Record = record { text = c.add_text-text.result; answer = c.args.answer; is_open = c.is_accepted.result } in
    let p : Pushed xs ys bs bs cs es rs qs r = record {
      texts = record { more = c.args.text.now; is = c.add_text-text.ensures.bytes };
      binds = record { more = []; is = sym (append-nil bs) };
      calls = record { more = k ∷ []; is = grind (arith, common_steps) };
      newest = (refl, tt);
      are = (tt, tt);
      records = grind (arith, common_steps);
      stands = c.add_text-text.ensures.stands;
    } in
    pushed_items xs ys bs bs cs es rs qs r p old.last c.self.invariant (call.Prepare c.args.name) (call_at-one bs (length rs) (Prepare c.args.name))
    ∙ ap (λ (t : List ℕ). record_items xs bs cs 0 rs ++ record { call = call.Prepare c.args.name; text = t; answer = c.args.answer } ∷ []) c.add_text-text.ensures.is
    ∙ ap (λ (l : Log). l.items ++ record { call = call.Prepare c.args.name; text = c.args.text.now; answer = c.args.answer } ∷ []) c.self.view_is

pub returns-clause-statements : goal.returns-clause-statements
returns-clause-statements c =
    let old = c.self.inside in
    let xs = string_bytes old.buffer in
    let ys = string_bytes c.add_text-text.new.buffer in
    let bs = old.binds.binds in
    let cs = old.calls.items in
    let es = c.push.new.self.items in
    let rs = old.records.items in
    let qs = c.push-2.new.self.items in
    let place : c.len-place.result ≡ length rs = search rules in
    let k : PlacedCall = record { place = length rs; call = Prepare c.args.name } in
    let r : Record = record { text = c.add_text-text.result; answer = c.args.answer; is_open = c.is_accepted.result } in
    let p : Pushed xs ys bs bs cs es rs qs r = record {
      texts = record { more = c.args.text.now; is = c.add_text-text.ensures.bytes };
      binds = record { more = []; is = sym (append-nil bs) };
      calls = record { more = k ∷ []; is = grind (arith, common_steps) };
      newest = (refl, tt);
      are = (tt, tt);
      records = grind (arith, common_steps);
      stands = c.add_text-text.ensures.stands;
    } in
    let size = sym (length-items xs bs cs 0 rs) ∙ ap (λ (l : Log). length l.items) c.self.view_is in
    pushed_statements xs ys bs bs cs es rs qs r p old.last c.self.invariant
    ∙ ap (λ (b : Bool). statement_if b (length rs) (record_text ys r) ++ statements_from xs 0 rs) c.is_accepted.ensures
    ∙ ap (λ (t : List ℕ). statement_if (is_accepted c.args.answer) (length rs) t ++ statements_from xs 0 rs) c.add_text-text.ensures.is
    ∙ ap (λ (n : ℕ). statement_if (is_accepted c.args.answer) n c.args.text.now ++ statements_from xs 0 rs) size
    ∙ ap (λ (l : Log). statement_if (is_accepted c.args.answer) (length c.args.self.now.items) c.args.text.now ++ l.statements) c.self.view_is

pub returns-clause-last : goal.returns-clause-last
returns-clause-last c =
    let old = c.self.inside in
    let xs = string_bytes old.buffer in
    let ys = string_bytes c.add_text-text.new.buffer in
    let bs = old.binds.binds in
    let cs = old.calls.items in
    let es = c.push.new.self.items in
    let rs = old.records.items in
    let qs = c.push-2.new.self.items in
    let place : c.len-place.result ≡ length rs = search rules in
    let k : PlacedCall = record { place = length rs; call = Prepare c.args.name } in
    let r : Record = record { text = c.add_text-text.result; answer = c.args.answer; is_open = c.is_accepted.result } in
    let p : Pushed xs ys bs bs cs es rs qs r = record {
      texts = record { more = c.args.text.now; is = c.add_text-text.ensures.bytes };
      binds = record { more = []; is = sym (append-nil bs) };
      calls = record { more = k ∷ []; is = grind (arith, common_steps) };
      newest = (refl, tt);
      are = (tt, tt);
      records = grind (arith, common_steps);
      stands = c.add_text-text.ensures.stands;
    } in
    pushed_last xs ys bs bs cs es rs qs r p old.last c.self.invariant ∙ ap (λ (l : Log). l.last) c.self.view_is

pub returns-clause-fresh : goal.returns-clause-fresh
returns-clause-fresh c = λ armed.
    let old = c.self.inside in
    let xs = string_bytes old.buffer in
    let rs = old.records.items in
    let size = sym (length-items xs old.binds.binds old.calls.items 0 rs) ∙ ap (λ (l : Log). length l.items) c.self.view_is in
    ap (λ (l : Log). find_open (length c.args.self.now.items) (open_statements armed l.statements)) (sym c.self.view_is)
    ∙ none_past armed xs 0 rs (length c.args.self.now.items) (omega (arith, size))
