use Rattle.std.proofs.Common.{ap, sym, ◌∙◌, arith}
use Rattle.conn_reading.specs.Asking.{find_query}
use Rattle.conn_session.proofs.Numbers.{at_number-past, at_number-within}
use Rattle.conn_session.proofs.queries.Queries.find.Goals as goal

pub returns-then-place-len : goal.returns-then-place-len
returns-then-place-len c =
    let n = c.args.number in
    let places = c.self.inside.places in
    c.as_ref.ensures.value ∙ c.index.ensures ∙ sym (at_number-within n places.items c.index.result.now (omega (arith, places.ok.0, c.len.ensures, c.if-place-len.true))) ∙ c.self.invariant n ∙ ap (find_query n) c.self.view_is

pub returns-else-place-len : goal.returns-else-place-len
returns-else-place-len c =
    let n = c.args.number in
    let places = c.self.inside.places in
    sym (at_number-past n places.items (omega (arith, places.ok.0, c.len.ensures, c.if-place-len.false))) ∙ c.self.invariant n ∙ ap (find_query n) c.self.view_is
