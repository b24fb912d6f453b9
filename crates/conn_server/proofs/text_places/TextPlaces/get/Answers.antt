use Rattle.std.proofs.Common.{◌≡◌, ◌∙◌, arith, ap, sym}
use Rattle.std.proofs.lemmas.Grind.{common_steps}
use Rattle.std.specs.HashMap.{get_by_text}
use Rattle.std.specs.Prelude.{string_bytes}
use Rattle.conn_server.specs.RowTables.{TextPlaces, text_place}
use Rattle.conn_server.proofs.Tabling.{lookup-texts}
use Rattle.conn_server.proofs.text_places.TextPlaces.get.Goals as goal

pub returns : goal.returns
returns c =
    let m = c.self.inside.places in
    let text = c.args.text.now in
    let found : c.copied.result ≡ get_by_text m text = grind (arith, common_steps) in
    found ∙ sym (lookup-texts string_bytes text m.entries) ∙ ap (λ (t : TextPlaces). text_place t text) c.self.view_is
