use Rattle.std.proofs.Common.{◌≡◌, ◌∙◌, ◌+◌, ◌-◌, ℕ, Bool, List, [], ◌∷◌, ◌++◌, length, Option, Some, ap, sym, subst, refl, arith, if◌then◌else◌}
use Rattle.std.proofs.lemmas.List.{length_push}
use Rattle.std.specs.Prelude.{Result, IfOk, IfErr, IsSome}
use Rattle.std.specs.Option.{option_map, unwrap_or}
use Rattle.conn_model.specs.Armed.{Values, affected_by, affected_of, columns_of}
use Rattle.conn_model.specs.Classes.{class}
use Rattle.conn_model.specs.Statements.{Runs}
use Rattle.conn_model.specs.declared.item.Refusal.{Refusal}
use Rattle.conn_model.specs.Statements.{text_of, run_bytes}
use Rattle.conn_model.specs.declared.item.Call.TheVariants.{Run}
use Rattle.conn_model.specs.declared.reply.RunReply.{RunReply}
use Rattle.conn_server.specs.Feeds.{armed_in, fed_after}
use Rattle.conn_server.specs.Firsts.{seen_scripted}
use Rattle.conn_server.specs.Logged.{open_statements, ran_of, is_accepted}
use Rattle.conn_server.specs.Ordered.{order_of, is_none_ordered}
use Rattle.conn_server.specs.Scripted.{seen_of}
use Rattle.conn_server.specs.RowTables.{LeadsTo}
use Rattle.conn_server.specs.declared.answering.Demand.TheVariants as demand
use Rattle.conn_server.specs.declared.feed.Feed.{Feed}
use Rattle.conn_server.proofs.Feeding.{IsFed, fed_by_run, left_kept, kept_small}
use Rattle.conn_server.proofs.Statements.{source_same}
use Rattle.conn_server.proofs.Taking.{Took, takes, run_demand, counts_by, logs_by, last_by, rows_by, ran_if, left_if, same_parts, binds_fit}
use Rattle.conn_model.specs.declared.item.Answer.{Answer}
use Rattle.conn_model.specs.declared.item.Item.{Item}
use Rattle.conn_server.specs.Answering.{reply_by}
use Rattle.conn_server.proofs.scripted.ScriptedServerServer.run.Goals as goal

pub invariant_of-self-clause-lawful : goal.invariant_of-self-clause-lawful
invariant_of-self-clause-lawful c =
    let s = c.args.self.now in
    let items = s.log.items in
    let a = c.answer-answer.result in
    let state = c.answer-answer.new.standing.state in
    let text = text_of (open_statements (armed_in c.args.self.now.feed) c.args.self.now.log.statements) c.args.source in
    let took : Took s.dialect s.orders items s.standing.state state (Run c.args.binds.now) text a =
    takes s.dialect s.orders items s.standing.state state (Run c.args.binds.now) text a s.lawful (demand.Run c.class_of-class.result) c.len-place.result c.get-order.result (run_demand c.class_of-class.result c.args.binds.now text (c.class_of-class.ensures ∙ ap class (c.text_of-text.ensures (armed_in c.args.self.now.feed)))) s.obeys c.len-place.ensures.len c.get-order.ensures c.answer-answer.ensures.answer c.answer-answer.ensures.state in
    rw (c.push_run.ensures.items (armed_in s.feed)) took.lawful

pub invariant_of-self-clause-obeys : goal.invariant_of-self-clause-obeys
invariant_of-self-clause-obeys c =
    let s = c.args.self.now in
    let items = s.log.items in
    let a = c.answer-answer.result in
    let state = c.answer-answer.new.standing.state in
    let text = text_of (open_statements (armed_in c.args.self.now.feed) c.args.self.now.log.statements) c.args.source in
    let took : Took s.dialect s.orders items s.standing.state state (Run c.args.binds.now) text a =
    takes s.dialect s.orders items s.standing.state state (Run c.args.binds.now) text a s.lawful (demand.Run c.class_of-class.result) c.len-place.result c.get-order.result (run_demand c.class_of-class.result c.args.binds.now text (c.class_of-class.ensures ∙ ap class (c.text_of-text.ensures (armed_in c.args.self.now.feed)))) s.obeys c.len-place.ensures.len c.get-order.ensures c.answer-answer.ensures.answer c.answer-answer.ensures.state in
    rw (c.push_run.ensures.items (armed_in s.feed)) took.obeys

pub returns-clause-runs : goal.returns-clause-runs
returns-clause-runs c =
    let s = c.args.self.now in
    let armed = armed_in s.feed in
    let items = s.log.items in
    let log = c.push_run.new.self in
    let a = c.answer-answer.result in
    let state = c.answer-answer.new.standing.state in
    let text = text_of (open_statements armed s.log.statements) c.args.source in
    let took : Took s.dialect s.orders items s.standing.state state (Run c.args.binds.now) text a =
    takes s.dialect s.orders items s.standing.state state (Run c.args.binds.now) text a s.lawful (demand.Run c.class_of-class.result) c.len-place.result c.get-order.result (run_demand c.class_of-class.result c.args.binds.now text (c.class_of-class.ensures ∙ ap class (c.text_of-text.ensures armed))) s.obeys c.len-place.ensures.len c.get-order.ensures c.answer-answer.ensures.answer c.answer-answer.ensures.state in
    let reply : RunReply = record { affected = c.affected_by-affected.result; columns = c.columns-columns.result } in
    let item : Item = record { call = Run c.args.binds.now; text = text; answer = a } in
    let size : length log.items ≡ length items + 1 = ap length (c.push_run.ensures.items armed) ∙ length_push items item in
    let counts = counts_by reply (Run c.args.binds.now) text (seen_scripted s) a c.failures_after-self.result c.failures_after-self.ensures.counts took.due c.failures_after-self.ensures.rises in
    let affected : reply.affected ≡ affected_of text = c.affected_by-affected.ensures ∙ ap affected_by (c.class_of-class.ensures ∙ ap class (c.text_of-text.ensures armed)) in
    let columns : reply.columns ≡ columns_of armed text = c.columns-columns.ensures ∙ ap (columns_of armed) (c.text_of-text.ensures armed) in
    let spent = ap (λ (t : List ℕ). run_bytes t c.args.binds.now) (c.text_of-text.ensures armed) in
    let old = seen_scripted s in
    let first = c.first-first.result in
    let run = c.len-place.result + 1 in
    let feed = fed_after first run a s.feed in
    let new = seen_of s.dialect s.number log state c.failures_after-self.result (c.args.self.now.room.items - 2) c.left_after-left.result (is_none_ordered s.orders) (order_of s.orders) feed in
    let runs : Runs text c.args.binds.now old new (reply_by reply a) = record {
      appends = record {
        log = logs_by reply items log.items (Run c.args.binds.now) text a (c.push_run.ensures.items armed);
        sent = omega (arith, size, c.len-place.ensures.len, c.len-place.ensures.small);
        items = omega arith;
        bytes = omega (arith, spent, c.requires.bytes, c.left_after-left.ensures);
        later = counts.rises;
        failed = counts.failed;
        unfailed = counts.unfailed;
        due = counts.due;
      };
      last = ap (option_map (ran_of armed)) (c.push_run.ensures.last armed) ∙ last_by armed reply text s.log.last a affected columns;
      rows = rows_by reply old new a
          (λ e. record { given = ap (λ (b : Bool). if b then 0 else s.feed.given) e; counts = refl })
          (λ e. record {
            given = ap (λ (b : Bool). if b then 0 else s.feed.given) e;
            left = ap (λ (rows : List Values). length rows) (left_kept s.feed s.log.last log.last text first run a e (c.push_run.ensures.last armed));
            rows = ap (λ (rows : List Values). Some rows) (left_kept s.feed s.log.last log.last text first run a e (c.push_run.ensures.last armed));
          });
      keeps = same_parts s.dialect s.number log state c.failures_after-self.result (c.args.self.now.room.items - 2) c.left_after-left.result (is_none_ordered s.orders) (order_of s.orders) feed s.log.statements log.last c.push_run.ensures.statements refl;
    } in
    subst (λ (r : Result RunReply Refusal). Runs text c.args.binds.now old (seen_of s.dialect s.number log state c.failures_after-self.result (c.args.self.now.room.items - 2) c.left_after-left.result (is_none_ordered s.orders) (order_of s.orders) c.begin.new.self) r) (sym c.reply_by.ensures)
    (subst (λ (f : Feed). Runs text c.args.binds.now old (seen_of s.dialect s.number log state c.failures_after-self.result (c.args.self.now.room.items - 2) c.left_after-left.result (is_none_ordered s.orders) (order_of s.orders) f) (reply_by reply a)) (sym c.begin.ensures) runs)

pub returns-clause-number : goal.returns-clause-number
returns-clause-number c =
    let s = c.args.self.now in
    let a = c.answer-answer.result in
    let reply : RunReply = record { affected = c.affected_by-affected.result; columns = c.columns-columns.result } in
    let run = c.len-place.result + 1 in
    let now : c.begin.new.self.run ≡ (if is_accepted a then Some run else s.feed.run) = ap (λ (f : Feed). f.run) c.begin.ensures in
    let place : run ≡ length s.log.items + 1 = ap (λ (n : ℕ). n + 1) c.len-place.ensures.len in
    subst (λ (r : Result RunReply Refusal). IfOk r (λ _. c.begin.new.self.run ≡ Some (length s.log.items + 1))) (sym c.reply_by.ensures)
    (subst (λ (n : ℕ). IfOk (reply_by reply a) (λ _. c.begin.new.self.run ≡ Some n)) place (ran_if reply c.begin.new.self.run run s.feed.run a now))

pub returns-clause-left : goal.returns-clause-left
returns-clause-left c =
    let s = c.args.self.now in
    let a = c.answer-answer.result in
    let reply : RunReply = record { affected = c.affected_by-affected.result; columns = c.columns-columns.result } in
    let first = c.first-first.result in
    let run = c.len-place.result + 1 in
    subst (λ (r : Result RunReply Refusal). IfErr r (λ _. c.begin.new.self ≡ s.feed)) (sym c.reply_by.ensures)
    (left_if reply s.feed c.begin.new.self a (λ e. c.begin.ensures ∙ ap (λ (b : Bool). record { rows = s.feed.rows; run = if b then Some run else s.feed.run; given = if b then 0 else s.feed.given; cursor = if b then first else s.feed.cursor }) e))

pub returns-clause-rows : goal.returns-clause-rows
returns-clause-rows c = ap (λ (f : Feed). f.rows) c.begin.ensures

pub returns-clause-answer : goal.returns-clause-answer
returns-clause-answer c =
    let s = c.args.self.now in
    let items = s.log.items in
    let a = c.answer-answer.result in
    let state = c.answer-answer.new.standing.state in
    let text = text_of (open_statements (armed_in c.args.self.now.feed) c.args.self.now.log.statements) c.args.source in
    let took : Took s.dialect s.orders items s.standing.state state (Run c.args.binds.now) text a =
    takes s.dialect s.orders items s.standing.state state (Run c.args.binds.now) text a s.lawful (demand.Run c.class_of-class.result) c.len-place.result c.get-order.result (run_demand c.class_of-class.result c.args.binds.now text (c.class_of-class.ensures ∙ ap class (c.text_of-text.ensures (armed_in c.args.self.now.feed)))) s.obeys c.len-place.ensures.len c.get-order.ensures c.answer-answer.ensures.answer c.answer-answer.ensures.state in
    ap Some (c.push_run.ensures.items (armed_in s.feed) ∙ ap (λ (x : Answer). items ++ record { call = Run c.args.binds.now; text = text; answer = x } ∷ []) took.is)

pub left_after-left-requires : goal.left_after-left-requires
left_after-left-requires c =
    let same = ap (λ (t : List ℕ). run_bytes t c.args.binds.now) (c.text_of-text.ensures (armed_in c.args.self.now.feed)) in
    omega (arith, same, c.requires.bytes)

pub push_run-requires-clause-binds : goal.push_run-requires-clause-binds
push_run-requires-clause-binds c =
    let fit = binds_fit c.args.binds.now in
    omega (arith, fit, c.requires.bytes, c.args.self.now.has_bytes, c.args.self.now.has_binds)

pub invariant_of-self-clause-has_binds : goal.invariant_of-self-clause-has_binds
invariant_of-self-clause-has_binds c =
    let fit = binds_fit c.args.binds.now in
    let same = ap (λ (t : List ℕ). run_bytes t c.args.binds.now) (c.text_of-text.ensures (armed_in c.args.self.now.feed)) in
    omega (arith, fit, same, c.requires.bytes, c.args.self.now.has_binds, c.left_after-left.ensures, c.push_run.ensures.bind_room)

pub invariant_of-self-clause-has_bytes : goal.invariant_of-self-clause-has_bytes
invariant_of-self-clause-has_bytes c =
    let same = ap (λ (t : List ℕ). run_bytes t c.args.binds.now) (c.text_of-text.ensures (armed_in c.args.self.now.feed)) in
    omega (arith, same, c.requires.bytes, c.args.self.now.has_bytes, c.left_after-left.ensures, c.push_run.ensures.byte_room)

pub text_of-text-requires : goal.text_of-text-requires
text_of-text-requires c = λ armed. subst (λ (o : Option (List ℕ)). IsSome o) (source_same (armed_in c.args.self.now.feed) armed c.args.self.now.log.statements c.args.source) c.requires.opened

pub push_run-requires-clause-opened : goal.push_run-requires-clause-opened
push_run-requires-clause-opened c = λ armed. subst (λ (o : Option (List ℕ)). IsSome o) (source_same (armed_in c.args.self.now.feed) armed c.args.self.now.log.statements c.args.source) c.requires.opened

pub push_run-requires-clause-bytes : goal.push_run-requires-clause-bytes
push_run-requires-clause-bytes c = λ armed.
    let same = ap (λ (o : Option (List ℕ)). run_bytes (unwrap_or o []) c.args.binds.now) (source_same (armed_in c.args.self.now.feed) armed c.args.self.now.log.statements c.args.source) in
    omega (arith, same, c.requires.bytes, c.args.self.now.has_bytes)

pub invariant_of-self-clause-feeds : goal.invariant_of-self-clause-feeds
invariant_of-self-clause-feeds c =
    let s = c.args.self.now in
    let armed = armed_in s.feed in
    let a = c.answer-answer.result in
    let text = text_of (open_statements armed s.log.statements) c.args.source in
    let first = c.first-first.result in
    let run = c.len-place.result + 1 in
    let leads : LeadsTo s.feed.rows (length s.feed.rows) text first = subst (λ (t : List ℕ). LeadsTo s.feed.rows (length s.feed.rows) t first) (c.text_of-text.ensures armed) c.first-first.ensures in
    let was : IsFed s.feed s.log.last = record { feeds = s.feeds; at_row = s.at_row; within = s.within; few = s.few } in
    let is : IsFed c.begin.new.self c.push_run.new.self.last =
    subst (λ (l : Option (List ℕ)). IsFed c.begin.new.self l) (sym (c.push_run.ensures.last armed))
    (subst (λ (f : Feed). IsFed f (if is_accepted a then Some text else s.log.last)) (sym c.begin.ensures) (fed_by_run s.feed s.log.last text first run a leads was)) in
    is.feeds

pub invariant_of-self-clause-at_row : goal.invariant_of-self-clause-at_row
invariant_of-self-clause-at_row c =
    let s = c.args.self.now in
    let armed = armed_in s.feed in
    let a = c.answer-answer.result in
    let text = text_of (open_statements armed s.log.statements) c.args.source in
    let first = c.first-first.result in
    let run = c.len-place.result + 1 in
    let leads : LeadsTo s.feed.rows (length s.feed.rows) text first = subst (λ (t : List ℕ). LeadsTo s.feed.rows (length s.feed.rows) t first) (c.text_of-text.ensures armed) c.first-first.ensures in
    let was : IsFed s.feed s.log.last = record { feeds = s.feeds; at_row = s.at_row; within = s.within; few = s.few } in
    let is : IsFed c.begin.new.self c.push_run.new.self.last =
    subst (λ (l : Option (List ℕ)). IsFed c.begin.new.self l) (sym (c.push_run.ensures.last armed))
    (subst (λ (f : Feed). IsFed f (if is_accepted a then Some text else s.log.last)) (sym c.begin.ensures) (fed_by_run s.feed s.log.last text first run a leads was)) in
    is.at_row

pub invariant_of-self-clause-within : goal.invariant_of-self-clause-within
invariant_of-self-clause-within c =
    let s = c.args.self.now in
    let armed = armed_in s.feed in
    let a = c.answer-answer.result in
    let text = text_of (open_statements armed s.log.statements) c.args.source in
    let first = c.first-first.result in
    let run = c.len-place.result + 1 in
    let leads : LeadsTo s.feed.rows (length s.feed.rows) text first = subst (λ (t : List ℕ). LeadsTo s.feed.rows (length s.feed.rows) t first) (c.text_of-text.ensures armed) c.first-first.ensures in
    let was : IsFed s.feed s.log.last = record { feeds = s.feeds; at_row = s.at_row; within = s.within; few = s.few } in
    let is : IsFed c.begin.new.self c.push_run.new.self.last =
    subst (λ (l : Option (List ℕ)). IsFed c.begin.new.self l) (sym (c.push_run.ensures.last armed))
    (subst (λ (f : Feed). IsFed f (if is_accepted a then Some text else s.log.last)) (sym c.begin.ensures) (fed_by_run s.feed s.log.last text first run a leads was)) in
    is.within

pub invariant_of-self-clause-few : goal.invariant_of-self-clause-few
invariant_of-self-clause-few c =
    let s = c.args.self.now in
    let armed = armed_in s.feed in
    let a = c.answer-answer.result in
    let text = text_of (open_statements armed s.log.statements) c.args.source in
    let first = c.first-first.result in
    let run = c.len-place.result + 1 in
    let leads : LeadsTo s.feed.rows (length s.feed.rows) text first = subst (λ (t : List ℕ). LeadsTo s.feed.rows (length s.feed.rows) t first) (c.text_of-text.ensures armed) c.first-first.ensures in
    let was : IsFed s.feed s.log.last = record { feeds = s.feeds; at_row = s.at_row; within = s.within; few = s.few } in
    let is : IsFed c.begin.new.self c.push_run.new.self.last =
    subst (λ (l : Option (List ℕ)). IsFed c.begin.new.self l) (sym (c.push_run.ensures.last armed))
    (subst (λ (f : Feed). IsFed f (if is_accepted a then Some text else s.log.last)) (sym c.begin.ensures) (fed_by_run s.feed s.log.last text first run a leads was)) in
    is.few

pub invariant_of-self-clause-has_items : goal.invariant_of-self-clause-has_items
invariant_of-self-clause-has_items c =
    let few = kept_small c.begin.new.self.run in
    omega (arith, few, c.requires.items, c.args.self.now.has_items, c.push_run.ensures.item_room)
