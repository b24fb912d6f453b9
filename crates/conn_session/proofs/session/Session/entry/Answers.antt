use Rattle.std.proofs.Common.{◌≡◌, Option, Some, None, ap, sym, ◌∙◌, arith}
use Rattle.std.specs.Option.{option_map}
use Rattle.conn_reading.specs.Seats.{Seat, at_number}
use Rattle.conn_session.specs.Steps.{entry_at}
use Rattle.conn_pool.specs.declared.pooled.PooledConnection.{PooledConnection}
use Rattle.conn_session.specs.Worlds.{views_of}
use Rattle.conn_session.proofs.Shown.{place-at, seats-at}
use Rattle.conn_session.proofs.Numbers.{at_number-map, at_number-past}
use Rattle.conn_session.proofs.session.Session.entry.Goals.{then-place-len+in_default, else-place-len}
use Rattle.conn_session.proofs.session.Session.entry.Goals as goal

pub returns-in-Some : goal.returns-in-Some
returns-in-Some g c =
    let view = λ (p : PooledConnection g.row.C.Denot). g.C.SimpleConnection.view p.connection in
    let out = c.args.self.now.out in
    let n = c.args.n in
    let there = place-at view n out.items c.index.result.now (omega (arith, out.ok.0, c.len.ensures, c.if-place-len.true)) c.index.ensures ∙ ap (option_map view) c.in-Some.is in
    c.entry_on.ensures ∙ ap (λ (o : Option Seat). entry_at c.args.line c.args.word n c.args.reply o) (sym (seats-at (views_of g.C.SimpleConnection.view out.items) n (Some (view c.in-Some.connection)) there))

pub returns : goal.returns
returns g c =
    let view = λ (p : PooledConnection g.row.C.Denot). g.C.SimpleConnection.view p.connection in
    let out = c.args.self.now.out in
    let n = c.args.n in
    let there : at_number n (views_of g.C.SimpleConnection.view out.items) ≡ None = elim c.if-place-len.branch [
      | then-place-len+in_default b ↦ place-at view n out.items b.index.result.now (omega (arith, out.ok.0, c.len.ensures, b.if-place-len.true)) b.index.ensures ∙ ap (option_map view) b.in_default.is
      | else-place-len b ↦ at_number-map view n out.items ∙ ap (option_map view) (at_number-past n out.items (omega (arith, out.ok.0, c.len.ensures, b.if-place-len.false)))
    ] in
    c.entry_without.ensures ∙ ap (λ (o : Option Seat). entry_at c.args.line c.args.word n c.args.reply o) (sym (seats-at (views_of g.C.SimpleConnection.view out.items) n None there))
