use Rattle.std.proofs.Common.{◌≡◌, ◌<◌, ◌∙◌, ap, sym, arith, length, Some, None}
use Rattle.conn_reading.specs.Seats.{at_number}
use Rattle.conn_script.specs.declared.query.Declared.{Declared}
use Rattle.conn_session.specs.Finds.{with_placed}
use Rattle.std.specs.Prelude.{not, slice_set}
use Rattle.conn_session.proofs.Finding.{at_number-empty, none_of, put_empty, put_none, some_of}
use Rattle.conn_session.proofs.Numbers.{at_number-within}
use Rattle.conn_session.proofs.queries.place.Goals as goal

pub loop-places-preserved : goal.loop-places-preserved
loop-places-preserved c = λ n. ap (at_number n) c.in_ok-push.ensures.items ∙ at_number-empty n c.loop-places.places.items ∙ c.loop-places.invariant n

pub returns-in_ok-new : goal.returns-in_ok-new
returns-in_ok-new c = λ n.
    let q = c.args.query.now in
    let places = c.loop-places.places in
    let room : q.number < length places.items = omega (arith, places.ok.0, c.len.ensures, c.loop-places-test.false) in
    let there : at_number q.number places.items ≡ c.index.result.now = at_number-within q.number places.items c.index.result.now room ∙ sym c.index.ensures in
    let empty : c.index.result.now ≡ None = none_of c.index.result.now (c.is_none.ensures ∙ ap not c.if-is_none.true) in
    ap (λ (x : Declared). at_number n (slice_set places.items q.number (Some x))) c.in_ok-new.ensures
    ∙ put_empty q places.items room (there ∙ empty) n ∙ ap (with_placed n q) (c.loop-places.invariant n)

pub returns-else-is_none : goal.returns-else-is_none
returns-else-is_none c = λ n.
    let q = c.args.query.now in
    let places = c.loop-places.places in
    let room : q.number < length places.items = omega (arith, places.ok.0, c.len.ensures, c.loop-places-test.false) in
    let there : at_number q.number places.items ≡ c.index.result.now = at_number-within q.number places.items c.index.result.now room ∙ sym c.index.ensures in
    let some = some_of c.index.result.now (c.is_none.ensures ∙ ap not c.if-is_none.false) in
    put_none q some.0 places.items (there ∙ some.1) n ∙ ap (with_placed n q) (c.loop-places.invariant n)
