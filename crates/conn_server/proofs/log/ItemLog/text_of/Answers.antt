use Rattle.std.proofs.Common.{◌∙◌, ℕ, List, [], ap, sym, subst}
use Rattle.std.specs.Prelude.{string_bytes, IsSome}
use Rattle.conn_model.specs.Armed.{Armed}
use Rattle.conn_model.specs.Statements.{source_text, text_of}
use Rattle.conn_server.specs.Logged.{Log, open_statements, statements_from, text_in_records, IsSourceIn}
use Rattle.conn_server.specs.declared.log.Record.{Record}
use Rattle.conn_server.proofs.Statements.{source_in, source_is}
use Rattle.conn_server.proofs.log.ItemLog.text_of.Goals as goal

pub text_from-requires : goal.text_from-requires
text_from-requires c =
    let armed : List Armed = [] in
    let old = c.self.inside in
    let xs = string_bytes old.buffer in
    let rs = old.records.items in
    let s = c.args.source in
    let opened : IsSome (source_text (open_statements armed (statements_from xs 0 rs)) s) = subst (λ (l : Log). IsSome (source_text (open_statements armed l.statements) s)) (sym c.self.view_is) (c.requires armed) in
    subst (λ (b : List ℕ). IsSourceIn b c.deref.result.now s) (sym c.as_str.ensures.value) (subst (λ (ts : List Record). IsSourceIn xs ts s) (sym c.deref.ensures.value) (source_in armed xs rs s c.self.invariant.stand opened))

pub returns : goal.returns
returns c = λ armed.
    let old = c.self.inside in
    let xs = string_bytes old.buffer in
    let rs = old.records.items in
    let s = c.args.source in
    let opened : IsSome (source_text (open_statements armed (statements_from xs 0 rs)) s) = subst (λ (l : Log). IsSome (source_text (open_statements armed l.statements) s)) (sym c.self.view_is) (c.requires armed) in
    c.text_from.ensures
    ∙ ap (λ (b : List ℕ). text_in_records b c.deref.result.now s) c.as_str.ensures.value
    ∙ ap (λ (ts : List Record). text_in_records xs ts s) c.deref.ensures.value
    ∙ source_is armed xs rs s c.self.invariant.stand opened
    ∙ ap (λ (l : Log). text_of (open_statements armed l.statements) s) c.self.view_is
