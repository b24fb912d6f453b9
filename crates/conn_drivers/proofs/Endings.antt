-- How an opening ends.
use Rattle.std.proofs.Common.{◌≡◌, ℕ, Bool, true, List, None, refl, ap, ◌∙◌, subst}
use Rattle.conn_model.specs.Acts.{Acts, Tells}
use Rattle.conn_model.specs.Process.{Process}
use Rattle.conn_model.specs.Seen.{Seen, IsHonest}
use Rattle.conn_model.specs.declared.item.Dialect.{Dialect}
use Rattle.conn_server.specs.Connected.{Connected}
use Rattle.conn_model.proofs.Telling.{tells_in_room}
use Rattle.conn_manager.specs.Manages.{Done, HasServerCause}
use Rattle.conn_manager.specs.Setups.{setup_process}
use Rattle.conn_manager.specs.Statuses.{Status, no_depth}
use Rattle.conn_drivers.specs.Establishing.{OpensAt, SetsUp}
use Rattle.conn_drivers.specs.Wires.{IsSetUp}

-- an unheeded call
tells_untold : {A : Type 0} (honest : Bool) (p : Process A) (old new : Seen) (a : A) → Acts honest p old new a → Tells honest p old new None None a
tells_untold honest p old new a acts = record { acts = acts; events = refl }

-- room alone was taken before the texts
executed_in_room : (honest : Bool) (old roomy new : Seen) (s : Status) (a : Done) → roomy ≡ record old { item_room = roomy.item_room; byte_room = roomy.byte_room } → IsSetUp honest roomy new s a → IsSetUp honest old new s a
executed_in_room honest old roomy new s a keeps h =
    let d : roomy.dialect ≡ old.dialect = ap (λ (x : Seen). x.dialect) keeps in
    let here : Acts honest (setup_process old.dialect s) roomy new a = subst (λ (x : Dialect). Acts honest (setup_process x s) roomy new a) d h.acts in
    record {
      acts = (tells_in_room honest (setup_process old.dialect s) old roomy new None None a keeps (tells_untold honest (setup_process old.dialect s) roomy new a here)).acts;
      cause = let c = subst (λ (x : Seen). HasServerCause x new a.reply) keeps h.cause in record { later = c.later; refused = c.refused };
      shut = h.shut ∙ ap (λ (x : Seen). x.open_statements) keeps;
    }

module _ (honest serves : Bool) (dialect : Dialect) (url : List ℕ) (old : Connected) where
  -- its texts were answered so, after room was taken for them
  pub sets_up : (left : Connected) (first roomy last : Seen) (s : Status) (a : Done) → OpensAt honest serves dialect url old left first → roomy ≡ record first { item_room = roomy.item_room; byte_room = roomy.byte_room } → s ≡ no_depth
      → IsSetUp serves roomy last s a → (serves ≡ true → IsHonest first × IsHonest last) → SetsUp honest serves dialect url old left last a
  sets_up left first roomy last s a opened keeps is set_up honesty = record {
    first = first;
    opened = opened;
    set_up = executed_in_room serves first roomy last no_depth a keeps (subst (λ (x : Status). IsSetUp serves roomy last x a) is set_up);
    honest = honesty;
  }
