use Rattle.std.proofs.Common.{◌≡◌, ◌∙◌, ◌+◌, ◌^◌, ◌<◌, ◌++◌, ℕ, List, Option, [], ◌∷◌, Some, length, length-append, ap, sym, subst, arith, if◌then◌else◌}
use Rattle.std.proofs.lemmas.Grind.{common_steps}
use Rattle.std.specs.Option.{unwrap_or}
use Rattle.std.specs.Prelude.{string_bytes}
use Rattle.conn_model.specs.Classes.{same_text}
use Rattle.conn_server.specs.RowTables.{armed_row, armed_by, text_place, count_up_to, IsRowTable}
use Rattle.conn_server.specs.declared.row_table.RowRecord.{RowRecord}
use Rattle.conn_server.proofs.Tabling.{armed_by-push, table-push}
use Rattle.conn_server.proofs.row_table.RowTable.push.Goals as goal

pub returns : goal.returns
returns c =
    let old = c.self.inside in
    let rs = old.records.items in
    let r : RowRecord = record { text = c.args.text; row = c.args.row; next = c.unwrap_or-next.result } in
    let more : c.push.new.self.items ≡ rs ++ r ∷ [] = grind (arith, common_steps) in
    ap armed_by more ∙ armed_by-push rs r ∙ ap (λ (xs : List RowRecord). armed_row r ∷ armed_by xs) c.self.view_is

pub invariant_of-self-2 : goal.invariant_of-self-2
invariant_of-self-2 c =
    let old = c.self.inside in
    let rs = old.records.items in
    let r : RowRecord = record { text = c.args.text; row = c.args.row; next = c.unwrap_or-next.result } in
    let more : c.push.new.self.items ≡ rs ++ r ∷ [] = grind (arith, common_steps) in
    let len : c.len.result ≡ length rs = grind (arith, common_steps) in
    let size : length (rs ++ r ∷ []) ≡ c.len.result + 1 = omega (arith, len, length-append rs (r ∷ [])) in
    let next : c.unwrap_or-next.result ≡ count_up_to old.first c.args.text = c.unwrap_or-next.ensures ∙ ap (λ (o : Option ℕ). unwrap_or o 0) (c.get.ensures ∙ ap (text_place old.first) c.as_str-2.ensures) in
    let key : string_bytes c.in_ok-key.key ≡ c.args.text = c.in_ok-key.ensures.ok ∙ c.as_str.ensures in
    let puts : (text : List ℕ) → text_place c.put.new.self text ≡ (if same_text c.args.text text then Some (length (rs ++ r ∷ [])) else text_place old.first text) =
    λ text. c.in_ok-put.ensures.puts text ∙ ap (λ (k : List ℕ). if same_text k text then Some (c.len.result + 1) else text_place old.first text) key
    ∙ ap (λ (n : ℕ). if same_text c.args.text text then Some n else text_place old.first text) (sym size) in
    let small : length (rs ++ r ∷ []) + 1 < 2 ^ 64 = omega (arith, size) in
    subst (λ (xs : List RowRecord). IsRowTable xs c.put.new.self) (sym more) (table-push rs r old.first c.put.new.self next puts small c.self.invariant)
