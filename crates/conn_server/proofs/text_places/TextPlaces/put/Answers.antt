use Rattle.std.proofs.Common.{◌≡◌, ◌∙◌, Option, ℕ, Some, ap, sym}
use Rattle.std.proofs.lemmas.Map.Text.{hash_map_updates_text}
use Rattle.std.specs.HashMap.{get_by_text}
use Rattle.std.specs.Prelude.{string_bytes, if◌then◌else◌}
use Rattle.std.specs.Str.{bytes_eq}
use Rattle.conn_model.specs.Classes.{same_text}
use Rattle.conn_server.specs.RowTables.{TextPlaces, text_place}
use Rattle.conn_server.proofs.Tabling.{lookup-texts}
use Rattle.conn_server.proofs.text_places.TextPlaces.put.Goals as goal

pub returns-clause-puts : goal.returns-clause-puts
unfolding same_text
returns-clause-puts c = λ other.
    let m = c.self.inside.places in
    let n = c.insert.new.self in
    let bs = string_bytes c.args.text in
    let found : get_by_text n other ≡ (if bytes_eq bs other then Some c.args.place else get_by_text m other) = hash_map_updates_text bs m n (Some c.args.place) c.in-Ok.ensures.updates other in
    lookup-texts string_bytes other n.entries ∙ found
    ∙ ap (λ (o : Option ℕ). if bytes_eq bs other then Some c.args.place else o) (sym (lookup-texts string_bytes other m.entries) ∙ ap (λ (t : TextPlaces). text_place t other) c.self.view_is)
