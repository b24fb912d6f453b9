use Rattle.std.proofs.Common.{◌∙◌, ◌++◌, [], ◌∷◌, ℕ, List, ap, sym, arith, length, append-nil, false, refl}
use Rattle.std.specs.Prelude.{string_bytes}
use Rattle.std.proofs.lemmas.Grind.{common_steps}
use Rattle.conn_model.specs.declared.item.Call.TheVariants as call
use Rattle.conn_server.specs.Logged.{Log, record_items}
use Rattle.conn_server.specs.declared.log.Record.{Record}
use Rattle.conn_server.proofs.Logs.{Pushed, pushed_items, pushed_statements, pushed_last, pushed_log, within_more}
use Rattle.conn_server.proofs.log.ItemLog.push_exec.Goals as goal

pub invariant_of-self : goal.invariant_of-self
invariant_of-self c =
    let old = c.self.inside in
    let xs = string_bytes old.buffer in
    let ys = string_bytes c.add_text-text.new.buffer in
    let bs = old.binds.binds in
    let cs = old.calls.items in
    let rs = old.records.items in
    let r : Record = record { text = c.add_text-text.result; answer = c.args.answer; is_open = false } in
    let p : Pushed xs ys bs bs cs cs rs c.push.new.self.items r = record {
      texts = record { more = c.args.text.now; is = c.add_text-text.ensures.bytes };
      binds = record { more = []; is = sym (append-nil bs) };
      calls = record { more = []; is = sym (append-nil cs) };
      newest = tt;
      are = tt;
      records = grind (arith, common_steps);
      stands = c.add_text-text.ensures.stands;
    } in
    pushed_log xs ys bs bs cs cs rs c.push.new.self.items r p old.last c.self.invariant old.last (within_more old.last (length rs) c.self.invariant.within)

pub returns-clause-items : goal.returns-clause-items
returns-clause-items c =
    let old = c.self.inside in
    let xs = string_bytes old.buffer in
    let ys = string_bytes c.add_text-text.new.buffer in
    let bs = old.binds.binds in
    let cs = old.calls.items in
    let rs = old.records.items in
    let r : Record = record { text = c.add_text-text.result; answer = c.args.answer; is_open = false } in
    let p : Pushed xs ys bs bs cs cs rs c.push.new.self.items r = record {
      texts = record { more = c.args.text.now; is = c.add_text-text.ensures.bytes };
      binds = record { more = []; is = sym (append-nil bs) };
      calls = record { more = []; is = sym (append-nil cs) };
      newest = tt;
      are = tt;
      records = grind (arith, common_steps);
      stands = c.add_text-text.ensures.stands;
    } in
    pushed_items xs ys bs bs cs cs rs c.push.new.self.items r p old.last c.self.invariant call.Exec refl
    ∙ ap (λ (t : List ℕ). record_items xs bs cs 0 rs ++ record { call = call.Exec; text = t; answer = c.args.answer } ∷ []) c.add_text-text.ensures.is
    ∙ ap (λ (l : Log). l.items ++ record { call = call.Exec; text = c.args.text.now; answer = c.args.answer } ∷ []) c.self.view_is

pub returns-clause-statements : goal.returns-clause-statements
returns-clause-statements c =
    let old = c.self.inside in
    let xs = string_bytes old.buffer in
    let ys = string_bytes c.add_text-text.new.buffer in
    let bs = old.binds.binds in
    let cs = old.calls.items in
    let rs = old.records.items in
    let r : Record = record { text = c.add_text-text.result; answer = c.args.answer; is_open = false } in
    let p : Pushed xs ys bs bs cs cs rs c.push.new.self.items r = record {
      texts = record { more = c.args.text.now; is = c.add_text-text.ensures.bytes };
      binds = record { more = []; is = sym (append-nil bs) };
      calls = record { more = []; is = sym (append-nil cs) };
      newest = tt;
      are = tt;
      records = grind (arith, common_steps);
      stands = c.add_text-text.ensures.stands;
    } in
    pushed_statements xs ys bs bs cs cs rs c.push.new.self.items r p old.last c.self.invariant ∙ ap (λ (l : Log). l.statements) c.self.view_is

pub returns-clause-last : goal.returns-clause-last
returns-clause-last c =
    let old = c.self.inside in
    let xs = string_bytes old.buffer in
    let ys = string_bytes c.add_text-text.new.buffer in
    let bs = old.binds.binds in
    let cs = old.calls.items in
    let rs = old.records.items in
    let r : Record = record { text = c.add_text-text.result; answer = c.args.answer; is_open = false } in
    let p : Pushed xs ys bs bs cs cs rs c.push.new.self.items r = record {
      texts = record { more = c.args.text.now; is = c.add_text-text.ensures.bytes };
      binds = record { more = []; is = sym (append-nil bs) };
      calls = record { more = []; is = sym (append-nil cs) };
      newest = tt;
      are = tt;
      records = grind (arith, common_steps);
      stands = c.add_text-text.ensures.stands;
    } in
    pushed_last xs ys bs bs cs cs rs c.push.new.self.items r p old.last c.self.invariant ∙ ap (λ (l : Log). l.last) c.self.view_is
