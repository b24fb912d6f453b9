use Rattle.std.proofs.Common.{◌∙◌, ap, sym, take, ◌++◌, ◌∷◌, []}
use Rattle.std.proofs.lemmas.List.{take_more}
use Rattle.conn_reading.specs.Asking.{find_query}
use Rattle.conn_script.specs.declared.query.Declared.{Declared}
use Rattle.conn_session.specs.Finds.{with_placed}
use Rattle.conn_session.proofs.Finding.{find_query-last}
use Rattle.conn_session.proofs.queries.Queries.new.Goals as goal

pub loop-query-preserved : goal.loop-query-preserved
loop-query-preserved c = λ n.
    let all = c.args.declared.now in
    let i = c.loop-query.query-index in
    c.in_ok-place.ensures n
    ∙ ap (with_placed n c.query-item.result) (c.loop-query.invariant n)
    ∙ sym (find_query-last n (take i all) c.query-item.result)
    ∙ ap (find_query n) (ap (λ (q : Declared). take i all ++ q ∷ []) c.query-item.is ∙ sym (take_more all i c.query-item.result c.loop-query-test.true))
