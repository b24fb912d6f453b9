use Rattle.std.proofs.Common.{◌≡◌, ◌∙◌, ◌+◌, ◌-◌, ◌^◌, ◌<◌, List, length, ap, sym, subst, arith, rules}
use Rattle.std.specs.Prelude.{slice_get, option_copied, IfSome}
use Rattle.conn_server.specs.RowTables.{record_before, LeadsTo}
use Rattle.conn_server.specs.declared.row_table.RowRecord.{RowRecord}
use Rattle.conn_server.proofs.Tabling.{before_is, linked_if}
use Rattle.conn_server.proofs.row_table.RowTable.before.Goals as goal

pub returns-clause-found : goal.returns-clause-found
returns-clause-found c =
    let rs = c.self.inside.records.items in
    let here : option_copied c.at.result ≡ slice_get rs (c.args.count - 1) = search rules in
    here ∙ sym (before_is rs c.args.count (omega arith)) ∙ ap (λ (xs : List RowRecord). record_before xs c.args.count) c.self.view_is

pub returns-clause-linked : goal.returns-clause-linked
returns-clause-linked c =
    let rs = c.self.inside.records.items in
    let here : option_copied c.at.result ≡ slice_get rs (c.args.count - 1) = search rules in
    subst (λ (xs : List RowRecord). IfSome (option_copied c.at.result) (λ (r : RowRecord). LeadsTo xs (c.args.count - 1) r.text r.next)) c.self.view_is
    (linked_if rs c.self.inside.first (c.args.count - 1) (option_copied c.at.result) c.self.invariant here)

pub returns-clause-small : goal.returns-clause-small
returns-clause-small c = subst (λ (xs : List RowRecord). length xs + 1 < 2 ^ 64) c.self.view_is c.self.invariant.small

pub returns-then-count-eq0-clause-small : goal.returns-then-count-eq0-clause-small
returns-then-count-eq0-clause-small c = subst (λ (xs : List RowRecord). length xs + 1 < 2 ^ 64) c.self.view_is c.self.invariant.small
