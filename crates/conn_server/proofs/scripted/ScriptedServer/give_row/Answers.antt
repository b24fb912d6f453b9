use Rattle.std.proofs.Common.{◌≡◌, Some, None, ap, sym, subst, arith, rules}
use Rattle.conn_model.specs.Rows.{GivenRow}
use Rattle.conn_server.specs.Feeds.{kept_back}
use Rattle.conn_server.specs.Firsts.{seen_scripted}
use Rattle.conn_server.specs.RowTables.{record_before}
use Rattle.conn_server.specs.declared.feed.Feed.{Feed}
use Rattle.conn_server.proofs.Feeding.{IsFed, IsNext, is_next}
use Rattle.conn_server.proofs.Giving.{fed_so, seen_with, gives_none, gives_next}
use Rattle.conn_server.proofs.scripted.ScriptedServer.give_row.Goals as goal

pub returns-in_default-clause-gives : goal.returns-in_default-clause-gives
returns-in_default-clause-gives c =
    let s = c.args.self.now in
    let none : record_before s.feed.rows s.feed.cursor ≡ None = search rules in
    gives_none s none

pub returns-clause-gives : goal.returns-clause-gives
returns-clause-gives c =
    let s = c.args.self.now in
    let r = c.in-Some.found.now in
    let here : record_before s.feed.rows s.feed.cursor ≡ Some r = search rules in
    let next : IsNext s.feed s.log.last r = is_next s.feed s.log.last r c.in-Some.ensures.small (fed_so s) here c.in-Some.ensures.linked in
    subst (λ (f : Feed). GivenRow (seen_scripted s) (seen_with s f) c.in-Ok.row) (sym c.go_on.ensures) (gives_next s r c.in-Ok.row next c.in-Ok.ensures)

pub invariant_of-self-clause-feeds : goal.invariant_of-self-clause-feeds
invariant_of-self-clause-feeds c =
    let s = c.args.self.now in
    let r = c.in-Some.found.now in
    let here : record_before s.feed.rows s.feed.cursor ≡ Some r = search rules in
    let next : IsNext s.feed s.log.last r = is_next s.feed s.log.last r c.in-Some.ensures.small (fed_so s) here c.in-Some.ensures.linked in
    let fed : IsFed c.go_on.new.self s.log.last = subst (λ (f : Feed). IsFed f s.log.last) (sym c.go_on.ensures) next.fed in
    fed.feeds

pub invariant_of-self-clause-at_row : goal.invariant_of-self-clause-at_row
invariant_of-self-clause-at_row c =
    let s = c.args.self.now in
    let r = c.in-Some.found.now in
    let here : record_before s.feed.rows s.feed.cursor ≡ Some r = search rules in
    let next : IsNext s.feed s.log.last r = is_next s.feed s.log.last r c.in-Some.ensures.small (fed_so s) here c.in-Some.ensures.linked in
    let fed : IsFed c.go_on.new.self s.log.last = subst (λ (f : Feed). IsFed f s.log.last) (sym c.go_on.ensures) next.fed in
    fed.at_row

pub invariant_of-self-clause-within : goal.invariant_of-self-clause-within
invariant_of-self-clause-within c =
    let s = c.args.self.now in
    let r = c.in-Some.found.now in
    let here : record_before s.feed.rows s.feed.cursor ≡ Some r = search rules in
    let next : IsNext s.feed s.log.last r = is_next s.feed s.log.last r c.in-Some.ensures.small (fed_so s) here c.in-Some.ensures.linked in
    let fed : IsFed c.go_on.new.self s.log.last = subst (λ (f : Feed). IsFed f s.log.last) (sym c.go_on.ensures) next.fed in
    fed.within

pub invariant_of-self-clause-few : goal.invariant_of-self-clause-few
invariant_of-self-clause-few c =
    let s = c.args.self.now in
    let r = c.in-Some.found.now in
    let here : record_before s.feed.rows s.feed.cursor ≡ Some r = search rules in
    let next : IsNext s.feed s.log.last r = is_next s.feed s.log.last r c.in-Some.ensures.small (fed_so s) here c.in-Some.ensures.linked in
    let fed : IsFed c.go_on.new.self s.log.last = subst (λ (f : Feed). IsFed f s.log.last) (sym c.go_on.ensures) next.fed in
    fed.few

pub invariant_of-self-clause-has_items : goal.invariant_of-self-clause-has_items
invariant_of-self-clause-has_items c =
    let back = ap (λ (f : Feed). kept_back f.run) c.go_on.ensures in
    omega (arith, back, c.args.self.now.has_items)
