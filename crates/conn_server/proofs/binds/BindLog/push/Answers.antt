use Rattle.std.proofs.Common.{◌≡◌, ◌∙◌, ◌++◌, [], ◌∷◌, List, ap, sym, subst, arith}
use Rattle.std.specs.List.{AllByRecursion}
use Rattle.std.proofs.lemmas.Grind.{common_steps}
use Rattle.conn_model.specs.declared.value.Value.{Value}
use Rattle.conn_server.specs.BindLists.{BindList, bind_list, bytes_of, IsBindIn}
use Rattle.conn_server.specs.declared.binds.BindRecord.{BindRecord}
use Rattle.conn_server.proofs.Binding.{bind_list-push, binds_stand-push}
use Rattle.conn_server.proofs.binds.BindLog.push.Goals as goal

pub invariant_of-self : goal.invariant_of-self
invariant_of-self c =
    let old = c.self.inside in
    let new = c.add_value-value.new.buffer.items in
    let r : BindRecord = record { kind = c.args.bind.now.kind; value = c.add_value-value.result } in
    let records : c.push.new.self.items ≡ old.records.items ++ r ∷ [] = grind (arith, common_steps) in
    subst (λ (rs : List BindRecord). AllByRecursion (IsBindIn new) rs) (sym records)
    (binds_stand-push old.records.items old.buffer.items (bytes_of c.args.bind.now.value) new r c.add_value-value.ensures.bytes c.add_value-value.ensures.stands c.self.invariant)

pub returns-clause-binds : goal.returns-clause-binds
returns-clause-binds c =
    let old = c.self.inside in
    let new = c.add_value-value.new.buffer.items in
    let r : BindRecord = record { kind = c.args.bind.now.kind; value = c.add_value-value.result } in
    let records : c.push.new.self.items ≡ old.records.items ++ r ∷ [] = grind (arith, common_steps) in
    ap (λ (rs : List BindRecord). bind_list new rs) records
    ∙ bind_list-push old.records.items old.buffer.items (bytes_of c.args.bind.now.value) new r c.args.bind.now c.add_value-value.ensures.bytes (ap (λ (v : Value). record { kind = c.args.bind.now.kind; value = v }) c.add_value-value.ensures.is) c.self.invariant
    ∙ ap (λ (b : BindList). b.binds ++ c.args.bind.now ∷ []) c.self.view_is
