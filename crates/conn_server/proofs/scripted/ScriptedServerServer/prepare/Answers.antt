use Rattle.std.proofs.Common.{◌≡◌, ◌∙◌, ◌+◌, [], ◌∷◌, ◌++◌, length, Some, ap, sym, subst, refl, arith}
use Rattle.std.proofs.lemmas.List.{length_push}
use Rattle.std.specs.Prelude.{Result, IfOk}
use Rattle.conn_model.specs.Statements.{Prepares}
use Rattle.conn_model.specs.declared.item.Refusal.{Refusal}
use Rattle.conn_model.specs.declared.item.Call.TheVariants.{Prepare}
use Rattle.conn_model.specs.declared.reply.Prepared.{Prepared}
use Rattle.conn_server.specs.Feeds.{armed_in}
use Rattle.conn_server.specs.Firsts.{seen_scripted}
use Rattle.conn_server.specs.Logged.{open_statements}
use Rattle.conn_server.specs.Ordered.{order_of, is_none_ordered}
use Rattle.conn_server.specs.Scripted.{seen_of}
use Rattle.conn_server.specs.declared.answering.Demand.TheVariants as demand
use Rattle.conn_server.proofs.Taking.{Took, takes, prepare_demand, counts_by, logs_by, opens_by, fresh_by, number_by, same_parts}
use Rattle.conn_model.specs.declared.item.Answer.{Answer}
use Rattle.conn_server.proofs.scripted.ScriptedServerServer.prepare.Goals as goal

pub invariant_of-self-clause-lawful : goal.invariant_of-self-clause-lawful
invariant_of-self-clause-lawful c =
    let s = c.args.self.now in
    let items = s.log.items in
    let a = c.answer-answer.result in
    let state = c.answer-answer.new.standing.state in
    let text = c.args.text.now in
    let took : Took s.dialect s.orders items s.standing.state state (Prepare c.args.name) text a =
    takes s.dialect s.orders items s.standing.state state (Prepare c.args.name) text a s.lawful demand.Prepare c.len-place.result c.get-order.result (prepare_demand c.args.name text) s.obeys c.len-place.ensures.len c.get-order.ensures c.answer-answer.ensures.answer c.answer-answer.ensures.state in
    rw c.push_prepare.ensures.items took.lawful

pub invariant_of-self-clause-obeys : goal.invariant_of-self-clause-obeys
invariant_of-self-clause-obeys c =
    let s = c.args.self.now in
    let items = s.log.items in
    let a = c.answer-answer.result in
    let state = c.answer-answer.new.standing.state in
    let text = c.args.text.now in
    let took : Took s.dialect s.orders items s.standing.state state (Prepare c.args.name) text a =
    takes s.dialect s.orders items s.standing.state state (Prepare c.args.name) text a s.lawful demand.Prepare c.len-place.result c.get-order.result (prepare_demand c.args.name text) s.obeys c.len-place.ensures.len c.get-order.ensures c.answer-answer.ensures.answer c.answer-answer.ensures.state in
    rw c.push_prepare.ensures.items took.obeys

pub invariant_of-self-clause-feeds : goal.invariant_of-self-clause-feeds
invariant_of-self-clause-feeds c = rw c.push_prepare.ensures.last c.args.self.now.feeds

pub invariant_of-self-clause-at_row : goal.invariant_of-self-clause-at_row
invariant_of-self-clause-at_row c = rw c.push_prepare.ensures.last c.args.self.now.at_row

pub returns-clause-prepares : goal.returns-clause-prepares
returns-clause-prepares c =
    let s = c.args.self.now in
    let items = s.log.items in
    let a = c.answer-answer.result in
    let state = c.answer-answer.new.standing.state in
    let text = c.args.text.now in
    let took : Took s.dialect s.orders items s.standing.state state (Prepare c.args.name) text a =
    takes s.dialect s.orders items s.standing.state state (Prepare c.args.name) text a s.lawful demand.Prepare c.len-place.result c.get-order.result (prepare_demand c.args.name text) s.obeys c.len-place.ensures.len c.get-order.ensures c.answer-answer.ensures.answer c.answer-answer.ensures.state in
    let p : Prepared = record { statement = c.len-place.result; columns = c.columns-columns.result } in
    let size : length c.push_prepare.new.self.items ≡ length items + 1 = ap length c.push_prepare.ensures.items ∙ length_push items (record { call = Prepare c.args.name; text = text; answer = a }) in
    let counts = counts_by p (Prepare c.args.name) text (seen_scripted s) a c.failures_after-self.result c.failures_after-self.ensures.counts took.due c.failures_after-self.ensures.rises in
    let number : p.statement ≡ length items = c.len-place.ensures.len in
    subst (λ (r : Result Prepared Refusal). Prepares c.args.name text (seen_scripted s) (seen_of s.dialect s.number c.push_prepare.new.self state c.failures_after-self.result c.take.new.self.items c.take.new.self.bytes (is_none_ordered s.orders) (order_of s.orders) s.feed) r) (sym c.reply_by.ensures) (record {
      appends = record {
        log = logs_by p items c.push_prepare.new.self.items (Prepare c.args.name) text a c.push_prepare.ensures.items;
        sent = omega (arith, size, c.len-place.ensures.len, c.len-place.ensures.small);
        items = omega arith;
        bytes = omega arith;
        later = counts.rises;
        failed = counts.failed;
        unfailed = counts.unfailed;
        due = counts.due;
      };
      fresh = fresh_by p (length items) (open_statements (armed_in s.feed) s.log.statements) a number (c.push_prepare.ensures.fresh (armed_in s.feed));
      opens = ap (open_statements (armed_in s.feed)) c.push_prepare.ensures.statements ∙ opens_by (armed_in s.feed) p (length items) text s.log.statements a number c.columns-columns.ensures;
      keeps = same_parts s.dialect s.number c.push_prepare.new.self state c.failures_after-self.result c.take.new.self.items c.take.new.self.bytes (is_none_ordered s.orders) (order_of s.orders) s.feed c.push_prepare.new.self.statements s.log.last refl c.push_prepare.ensures.last;
    })

pub returns-clause-answer : goal.returns-clause-answer
returns-clause-answer c =
    let s = c.args.self.now in
    let items = s.log.items in
    let a = c.answer-answer.result in
    let state = c.answer-answer.new.standing.state in
    let text = c.args.text.now in
    let took : Took s.dialect s.orders items s.standing.state state (Prepare c.args.name) text a =
    takes s.dialect s.orders items s.standing.state state (Prepare c.args.name) text a s.lawful demand.Prepare c.len-place.result c.get-order.result (prepare_demand c.args.name text) s.obeys c.len-place.ensures.len c.get-order.ensures c.answer-answer.ensures.answer c.answer-answer.ensures.state in
    ap Some (c.push_prepare.ensures.items ∙ ap (λ (x : Answer). items ++ record { call = Prepare c.args.name; text = text; answer = x } ∷ []) took.is)

pub returns-clause-number : goal.returns-clause-number
returns-clause-number c =
    let p : Prepared = record { statement = c.len-place.result; columns = c.columns-columns.result } in
    subst (λ (r : Result Prepared Refusal). IfOk r (λ q. q.statement ≡ length c.args.self.now.log.items)) (sym c.reply_by.ensures) (number_by p (length c.args.self.now.log.items) c.answer-answer.result c.len-place.ensures.len)
