use Rattle.std.proofs.Common.{◌≡◌, ◌∙◌, ℕ, List, Option, ap, sym, subst, length}
use Rattle.std.specs.Option.{unwrap_or}
use Rattle.conn_server.specs.RowTables.{LeadsTo, count_up_to}
use Rattle.conn_server.specs.declared.row_table.RowRecord.{RowRecord}
use Rattle.conn_server.proofs.row_table.RowTable.first.Goals as goal

pub returns : goal.returns
returns c =
    let t = c.self.inside in
    let count : c.unwrap_or.result ≡ count_up_to t.first c.args.text.now = c.unwrap_or.ensures ∙ ap (λ (o : Option ℕ). unwrap_or o 0) c.get.ensures in
    subst (λ (rs : List RowRecord). LeadsTo rs (length rs) c.args.text.now c.unwrap_or.result) c.self.view_is
    (subst (λ (n : ℕ). LeadsTo t.records.items (length t.records.items) c.args.text.now n) (sym count) (c.self.invariant.found c.args.text.now))
