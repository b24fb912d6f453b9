use Rattle.std.proofs.Common.{◌∙◌, arith, sym}
use Rattle.conn_server.proofs.Tabling.{columns_none, columns_some}
use Rattle.conn_server.proofs.feed.Feed.columns.Goals as goal

pub returns-in-Some : goal.returns-in-Some
returns-in-Some c =
    let is = columns_some c.args.self.now.rows c.args.text.now c.first.result c.in-Some.found.now c.first.ensures (sym c.in-Some.ensures.found) in
    omega (arith, is, c.len.ensures)

pub returns-in-None : goal.returns-in-None
returns-in-None c = c.unarmed_columns.ensures ∙ sym (columns_none c.args.self.now.rows c.args.text.now c.first.result c.first.ensures (sym c.in-None.ensures.found))
