use Rattle.std.proofs.Common.{◌≡◌, ◌∙◌, ◌++◌, [], ◌∷◌, ℕ, List, ap, sym, arith, length, length-append, rules, take, drop, subst, if◌then◌else◌, true, false, Option, Some, refl}
use Rattle.std.specs.Prelude.{string_bytes, IsSome}
use Rattle.std.specs.Option.{option_map}
use Rattle.std.proofs.lemmas.Grind.{common_steps}
use Rattle.conn_model.specs.Armed.{Armed}
use Rattle.conn_model.specs.declared.item.Call.TheVariants as call
use Rattle.conn_model.specs.declared.value.Bind.{Bind}
use Rattle.conn_server.specs.Logged.{Log, record_items, record_text_at, text_in_records, text_added, open_statements, statements_from, is_accepted, IsLog, IsSourceIn}
use Rattle.conn_server.specs.declared.log.CallRecord.TheVariants.{Run}
use Rattle.conn_server.specs.declared.log.PlacedCall.{PlacedCall}
use Rattle.conn_server.specs.declared.log.Record.{Record}
use Rattle.conn_server.proofs.Logs.{Pushed, call_at-one, pushed_items, pushed_statements, pushed_last, pushed_text, pushed_log, newest_within}
use Rattle.std.proofs.Math.Seq.{take-length, drop-append_seam}
use Rattle.conn_model.specs.Statements.{source_text, text_of}
use Rattle.conn_server.proofs.Statements.{source_in, source_is}
use Rattle.conn_server.proofs.log.ItemLog.push_run.Goals as goal

pub add_source-text-requires-clause-stands : goal.add_source-text-requires-clause-stands
add_source-text-requires-clause-stands c =
    let armed : List Armed = [] in
    let old = c.self.inside in
    let xs = string_bytes old.buffer in
    let rs = old.records.items in
    let s = c.args.source in
    let opened : IsSome (source_text (open_statements armed (statements_from xs 0 rs)) s) = subst (λ (l : Log). IsSome (source_text (open_statements armed l.statements) s)) (sym c.self.view_is) (c.requires.opened armed) in
    let text : text_in_records xs c.deref.result.now s ≡ text_of (open_statements armed c.args.self.now.statements) s =
    ap (λ (ts : List Record). text_in_records xs ts s) c.deref.ensures.value ∙ source_is armed xs rs s c.self.invariant.stand opened
    ∙ ap (λ (l : Log). text_of (open_statements armed l.statements) s) c.self.view_is in
    subst (λ (ts : List Record). IsSourceIn xs ts s) (sym c.deref.ensures.value) (source_in armed xs rs s c.self.invariant.stand opened)

pub add_source-text-requires-clause-room : goal.add_source-text-requires-clause-room
add_source-text-requires-clause-room c =
    let armed : List Armed = [] in
    let old = c.self.inside in
    let xs = string_bytes old.buffer in
    let rs = old.records.items in
    let s = c.args.source in
    let opened : IsSome (source_text (open_statements armed (statements_from xs 0 rs)) s) = subst (λ (l : Log). IsSome (source_text (open_statements armed l.statements) s)) (sym c.self.view_is) (c.requires.opened armed) in
    let text : text_in_records xs c.deref.result.now s ≡ text_of (open_statements armed c.args.self.now.statements) s =
    ap (λ (ts : List Record). text_in_records xs ts s) c.deref.ensures.value ∙ source_is armed xs rs s c.self.invariant.stand opened
    ∙ ap (λ (l : Log). text_of (open_statements armed l.statements) s) c.self.view_is in
    let room = ap (λ (l : Log). l.byte_room) c.self.view_is in
    let size = ap length text in
    omega (arith, size, room, c.requires.bytes armed)

pub returns-clause-byte_room : goal.returns-clause-byte_room
returns-clause-byte_room c = λ armed.
    let old = c.self.inside in
    let xs = string_bytes old.buffer in
    let rs = old.records.items in
    let s = c.args.source in
    let opened : IsSome (source_text (open_statements armed (statements_from xs 0 rs)) s) = subst (λ (l : Log). IsSome (source_text (open_statements armed l.statements) s)) (sym c.self.view_is) (c.requires.opened armed) in
    let text : text_in_records xs c.deref.result.now s ≡ text_of (open_statements armed c.args.self.now.statements) s =
    ap (λ (ts : List Record). text_in_records xs ts s) c.deref.ensures.value ∙ source_is armed xs rs s c.self.invariant.stand opened
    ∙ ap (λ (l : Log). text_of (open_statements armed l.statements) s) c.self.view_is in
    let room = ap (λ (l : Log). l.byte_room) c.self.view_is in
    let size = ap length text in
    omega (arith, size, room, c.add_source-text.ensures.room, c.add.ensures.value_room)

pub invariant_of-self : goal.invariant_of-self
invariant_of-self c =
    let armed : List Armed = [] in
    let old = c.self.inside in
    let xs = string_bytes old.buffer in
    let rs = old.records.items in
    let s = c.args.source in
    let opened : IsSome (source_text (open_statements armed (statements_from xs 0 rs)) s) = subst (λ (l : Log). IsSome (source_text (open_statements armed l.statements) s)) (sym c.self.view_is) (c.requires.opened armed) in
    let text : text_in_records xs c.deref.result.now s ≡ text_of (open_statements armed c.args.self.now.statements) s =
    ap (λ (ts : List Record). text_in_records xs ts s) c.deref.ensures.value ∙ source_is armed xs rs s c.self.invariant.stand opened
    ∙ ap (λ (l : Log). text_of (open_statements armed l.statements) s) c.self.view_is in
    let ys = string_bytes c.add_source-text.new.buffer in
    let bs = old.binds.binds in
    let ds = c.add.new.self.binds in
    let cs = old.calls.items in
    let es = c.push.new.self.items in
    let qs = c.push-2.new.self.items in
    let place : c.len-place.result ≡ length rs = search rules in
    let k : PlacedCall = record { place = length rs; call = Run (length bs) (length c.args.binds.now) } in
    let r : Record = record { text = c.add_source-text.result; answer = c.args.answer; is_open = false } in
    let p : Pushed xs ys bs ds cs es rs qs r = record {
      texts = record { more = text_added s; is = c.add_source-text.ensures.more };
      binds = record { more = c.args.binds.now; is = c.add.ensures.binds };
      calls = record { more = k ∷ []; is = grind (arith, common_steps) };
      newest = (refl, tt);
      are = (omega (arith, length-append bs c.args.binds.now, ap length c.add.ensures.binds), tt);
      records = grind (arith, common_steps);
      stands = c.add_source-text.ensures.stands;
    } in
    let b = is_accepted c.args.answer in
    let newest : c.newest-last.result ≡ (if b then Some (length rs) else old.last) = c.newest-last.ensures ∙ ap (λ (n : ℕ). if b then Some n else old.last) place in
    subst (λ (last : Option ℕ). IsLog ys ds es qs last) (sym newest)
    (pushed_log xs ys bs ds cs es rs qs r p old.last c.self.invariant (if b then Some (length rs) else old.last) (newest_within b (length rs) old.last c.self.invariant.within))

pub returns-clause-items : goal.returns-clause-items
returns-clause-items c = λ armed.
    let old = c.self.inside in
    let xs = string_bytes old.buffer in
    let rs = old.records.items in
    let s = c.args.source in
    let opened : IsSome (source_text (open_statements armed (statements_from xs 0 rs)) s) = subst (λ (l : Log). IsSome (source_text (open_statements armed l.statements) s)) (sym c.self.view_is) (c.requires.opened armed) in
    let text : text_in_records xs c.deref.result.now s ≡ text_of (open_statements armed c.args.self.now.statements) s =
    ap (λ (ts : List Record). text_in_records xs ts s) c.deref.ensures.value ∙ source_is armed xs rs s c.self.invariant.stand opened
    ∙ ap (λ (l : Log). text_of (open_statements armed l.statements) s) c.self.view_is in
    let ys = string_bytes c.add_source-text.new.buffer in
    let bs = old.binds.binds in
    let ds = c.add.new.self.binds in
    let cs = old.calls.items in
    let es = c.push.new.self.items in
    let qs = c.push-2.new.self.items in
    let place : c.len-place.result ≡ length rs = search rules in
    let k : PlacedCall = record { place = length rs; call = Run (length bs) (length c.args.binds.now) } in
    let r : Record = record { text = c.add_source-text.result; answer = c.args.answer; is_open = false } in
    let p : Pushed xs ys bs ds cs es rs qs r = record {
      texts = record { more = text_added s; is = c.add_source-text.ensures.more };
      binds = record { more = c.args.binds.now; is = c.add.ensures.binds };
      calls = record { more = k ∷ []; is = grind (arith, common_steps) };
      newest = (refl, tt);
      are = (omega (arith, length-append bs c.args.binds.now, ap length c.add.ensures.binds), tt);
      records = grind (arith, common_steps);
      stands = c.add_source-text.ensures.stands;
    } in
    let binds = c.args.binds.now in
    let taken : take (length binds) (drop (length bs) ds) ≡ binds = ap (λ (b : List Bind). take (length binds) (drop (length bs) b)) c.add.ensures.binds ∙ rw (drop-append_seam bs binds) (take-length binds) in
    pushed_items xs ys bs ds cs es rs qs r p old.last c.self.invariant (call.Run binds) (call_at-one ds (length rs) (Run (length bs) (length binds)) ∙ ap (λ (b : List Bind). call.Run b) taken)
    ∙ ap (λ (t : List ℕ). record_items xs bs cs 0 rs ++ record { call = call.Run binds; text = t; answer = c.args.answer } ∷ []) (c.add_source-text.ensures.is ∙ text)
    ∙ ap (λ (l : Log). l.items ++ record { call = call.Run binds; text = text_of (open_statements armed c.args.self.now.statements) s; answer = c.args.answer } ∷ []) c.self.view_is

pub returns-clause-statements : goal.returns-clause-statements
returns-clause-statements c =
    let armed : List Armed = [] in
    let old = c.self.inside in
    let xs = string_bytes old.buffer in
    let rs = old.records.items in
    let s = c.args.source in
    let opened : IsSome (source_text (open_statements armed (statements_from xs 0 rs)) s) = subst (λ (l : Log). IsSome (source_text (open_statements armed l.statements) s)) (sym c.self.view_is) (c.requires.opened armed) in
    let text : text_in_records xs c.deref.result.now s ≡ text_of (open_statements armed c.args.self.now.statements) s =
    ap (λ (ts : List Record). text_in_records xs ts s) c.deref.ensures.value ∙ source_is armed xs rs s c.self.invariant.stand opened
    ∙ ap (λ (l : Log). text_of (open_statements armed l.statements) s) c.self.view_is in
    let ys = string_bytes c.add_source-text.new.buffer in
    let bs = old.binds.binds in
    let ds = c.add.new.self.binds in
    let cs = old.calls.items in
    let es = c.push.new.self.items in
    let qs = c.push-2.new.self.items in
    let place : c.len-place.result ≡ length rs = search rules in
    let k : PlacedCall = record { place = length rs; call = Run (length bs) (length c.args.binds.now) } in
    let r : Record = record { text = c.add_source-text.result; answer = c.args.answer; is_open = false } in
    let p : Pushed xs ys bs ds cs es rs qs r = record {
      texts = record { more = text_added s; is = c.add_source-text.ensures.more };
      binds = record { more = c.args.binds.now; is = c.add.ensures.binds };
      calls = record { more = k ∷ []; is = grind (arith, common_steps) };
      newest = (refl, tt);
      are = (omega (arith, length-append bs c.args.binds.now, ap length c.add.ensures.binds), tt);
      records = grind (arith, common_steps);
      stands = c.add_source-text.ensures.stands;
    } in
    pushed_statements xs ys bs ds cs es rs qs r p old.last c.self.invariant ∙ ap (λ (l : Log). l.statements) c.self.view_is

pub returns-clause-last : goal.returns-clause-last
returns-clause-last c = λ armed.
    let old = c.self.inside in
    let xs = string_bytes old.buffer in
    let rs = old.records.items in
    let s = c.args.source in
    let opened : IsSome (source_text (open_statements armed (statements_from xs 0 rs)) s) = subst (λ (l : Log). IsSome (source_text (open_statements armed l.statements) s)) (sym c.self.view_is) (c.requires.opened armed) in
    let text : text_in_records xs c.deref.result.now s ≡ text_of (open_statements armed c.args.self.now.statements) s =
    ap (λ (ts : List Record). text_in_records xs ts s) c.deref.ensures.value ∙ source_is armed xs rs s c.self.invariant.stand opened
    ∙ ap (λ (l : Log). text_of (open_statements armed l.statements) s) c.self.view_is in
    let ys = string_bytes c.add_source-text.new.buffer in
    let bs = old.binds.binds in
    let ds = c.add.new.self.binds in
    let cs = old.calls.items in
    let es = c.push.new.self.items in
    let qs = c.push-2.new.self.items in
    let place : c.len-place.result ≡ length rs = search rules in
    let k : PlacedCall = record { place = length rs; call = Run (length bs) (length c.args.binds.now) } in
    let r : Record = record { text = c.add_source-text.result; answer = c.args.answer; is_open = false } in
    let p : Pushed xs ys bs ds cs es rs qs r = record {
      texts = record { more = text_added s; is = c.add_source-text.ensures.more };
      binds = record { more = c.args.binds.now; is = c.add.ensures.binds };
      calls = record { more = k ∷ []; is = grind (arith, common_steps) };
      newest = (refl, tt);
      are = (omega (arith, length-append bs c.args.binds.now, ap length c.add.ensures.binds), tt);
      records = grind (arith, common_steps);
      stands = c.add_source-text.ensures.stands;
    } in
    let b = is_accepted c.args.answer in
    let now = text_of (open_statements armed c.args.self.now.statements) s in
    let newest : c.newest-last.result ≡ (if b then Some (length rs) else old.last) = c.newest-last.ensures ∙ ap (λ (n : ℕ). if b then Some n else old.last) place in
    ap (option_map (record_text_at ys qs)) newest
    ∙ elim b as (λ a. option_map (record_text_at ys qs) (if a then Some (length rs) else old.last) ≡ (if a then Some now else c.args.self.now.last)) [
      | true ↦ ap Some (pushed_text xs ys bs ds cs es rs qs r p old.last c.self.invariant ∙ c.add_source-text.ensures.is ∙ text)
      | false ↦ pushed_last xs ys bs ds cs es rs qs r p old.last c.self.invariant ∙ ap (λ (l : Log). l.last) c.self.view_is
    ]

pub add-requires-clause-bytes : goal.add-requires-clause-bytes
add-requires-clause-bytes c =
    let room = ap (λ (l : Log). l.byte_room) c.self.view_is in
    omega (arith, room, c.requires.bytes [])
