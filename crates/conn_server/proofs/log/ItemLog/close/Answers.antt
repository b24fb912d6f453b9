use Rattle.std.proofs.Common.{◌≡◌, ◌∙◌, ℕ, Some, ap, sym, arith}
use Rattle.std.proofs.lemmas.Option.{slice_get-get_or}
use Rattle.std.specs.Prelude.{string_bytes, slice_get}
use Rattle.conn_model.specs.Statements.{without_open}
use Rattle.conn_server.specs.Logged.{Log, open_statements, statements_from}
use Rattle.conn_server.proofs.Logs.{items-shut, last-shut}
use Rattle.conn_server.proofs.Statements.{closed_from, closed_none}
use Rattle.conn_server.proofs.log.ItemLog.close.Goals as goal

pub returns-then-place-len-clause-items : goal.returns-then-place-len-clause-items
returns-then-place-len-clause-items c =
    let old = c.self.inside in
    let xs = string_bytes old.buffer in
    let rs = old.records.items in
    let r = c.index_mut.result.now in
    let here : slice_get rs c.args.statement ≡ Some r = slice_get-get_or rs c.args.statement r (omega (arith, old.records.ok.0, c.len.ensures, c.if-place-len.true)) ∙ ap Some (sym c.index_mut.ensures.value) in
    items-shut xs old.binds.binds old.calls.items 0 rs c.args.statement r here ∙ ap (λ (l : Log). l.items) c.self.view_is

pub returns-then-place-len-clause-statements : goal.returns-then-place-len-clause-statements
returns-then-place-len-clause-statements c = λ armed.
    let old = c.self.inside in
    let xs = string_bytes old.buffer in
    let rs = old.records.items in
    let r = c.index_mut.result.now in
    let here : slice_get rs c.args.statement ≡ Some r = slice_get-get_or rs c.args.statement r (omega (arith, old.records.ok.0, c.len.ensures, c.if-place-len.true)) ∙ ap Some (sym c.index_mut.ensures.value) in
    closed_from armed xs 0 rs c.args.statement r here ∙ ap (λ (n : ℕ). without_open n (open_statements armed (statements_from xs 0 rs))) (omega arith)
    ∙ ap (λ (l : Log). without_open c.args.statement (open_statements armed l.statements)) c.self.view_is

pub returns-then-place-len-clause-last : goal.returns-then-place-len-clause-last
returns-then-place-len-clause-last c =
    let old = c.self.inside in
    let xs = string_bytes old.buffer in
    let rs = old.records.items in
    let r = c.index_mut.result.now in
    let here : slice_get rs c.args.statement ≡ Some r = slice_get-get_or rs c.args.statement r (omega (arith, old.records.ok.0, c.len.ensures, c.if-place-len.true)) ∙ ap Some (sym c.index_mut.ensures.value) in
    last-shut xs rs c.args.statement r old.last here ∙ ap (λ (l : Log). l.last) c.self.view_is

pub returns-else-place-len-clause-statements : goal.returns-else-place-len-clause-statements
returns-else-place-len-clause-statements c = λ armed.
    let old = c.self.inside in
    let xs = string_bytes old.buffer in
    let rs = old.records.items in
    let past = closed_none armed xs rs c.args.statement (omega arith) in
    ap (λ (l : Log). open_statements armed l.statements) (sym c.self.view_is) ∙ past
    ∙ ap (λ (l : Log). without_open c.args.statement (open_statements armed l.statements)) c.self.view_is
