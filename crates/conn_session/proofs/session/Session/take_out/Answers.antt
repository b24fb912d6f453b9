use Rattle.std.proofs.Common.{ap, sym, ◌∙◌, arith}
use Rattle.std.specs.Option.{option_map}
use Rattle.conn_pool.specs.declared.pooled.PooledConnection.{PooledConnection}
use Rattle.conn_session.proofs.Numbers.{at_number-map, at_number-past, at_number-within}
use Rattle.conn_session.proofs.session.Session.take_out.Goals as goal

pub returns-then-place-len-clause-taken : goal.returns-then-place-len-clause-taken
returns-then-place-len-clause-taken g c =
    let out = c.args.self.now.out in
    let view = λ (p : PooledConnection g.row.C.Denot). g.C.SimpleConnection.view p.connection in
    sym (at_number-map view c.args.n out.items ∙ ap (option_map view) (at_number-past c.args.n out.items (omega (arith, out.ok.0, c.len.ensures, c.if-place-len.true))))

pub returns-clause-taken : goal.returns-clause-taken
returns-clause-taken g c =
    let out = c.args.self.now.out in
    let view = λ (p : PooledConnection g.row.C.Denot). g.C.SimpleConnection.view p.connection in
    ap (option_map view) (c.take.ensures.value ∙ c.index_mut.ensures.value ∙ sym (at_number-within c.args.n out.items c.index_mut.result.now (omega (arith, out.ok.0, c.len.ensures, c.if-place-len.false))))
    ∙ sym (at_number-map view c.args.n out.items)
