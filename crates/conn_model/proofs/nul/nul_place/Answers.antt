use Rattle.std.proofs.Common.{◌∙◌, ap, sym, nat_eq}
use Rattle.std.specs.List.{list_any}
use Rattle.conn_model.proofs.NulFree.{no_place}
use Rattle.conn_model.proofs.nul.nul_place.Goals as goal

pub returns-then-not-contains : goal.returns-then-not-contains
returns-then-not-contains c =
    no_place c.args.text.now
    (ap (list_any (λ b. nat_eq b 0)) (sym c.as_bytes-bytes.ensures.value) ∙ sym c.contains.ensures.value ∙ c.if-not-contains.true)
