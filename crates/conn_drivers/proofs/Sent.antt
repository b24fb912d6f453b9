-- A text on a wire tells no event.
use Rattle.std.proofs.Common.{◌≡◌, ℕ, Bool, List, [], ◌∷◌, refl, ap, sym, ◌∙◌, Option, Some, None}
use Rattle.conn_model.specs.Acts.{Acts}
use Rattle.conn_model.specs.Events.{Event, with_events}
use Rattle.conn_model.specs.Nuls.{nul_fault}
use Rattle.conn_model.specs.Process.{Sent, events_of}
use Rattle.conn_model.specs.declared.item.Dialect.{Dialect}
use Rattle.conn_model.proofs.Telling.{with_none}
use Rattle.conn_manager.specs.Manages.{Reply, bare_process, bare_text, done}
use Rattle.conn_manager.specs.Statuses.{Status}
use Rattle.conn_manager.specs.Views.{View, TellsFrom}

no_events : (place : Option ℕ) (d : Dialect) (text : List ℕ) (s : Status) (sent : List Sent) → events_of (bare_text place d text s) sent ≡ []
no_events None d text s [] = refl
no_events None d text s (i ∷ is) = refl
no_events (Some place) d text s sent = refl

-- the connection of the wire told none either
pub tells_none : (honest : Bool) (text : List ℕ) (old new : View) (reply : Reply) → new.heeded ≡ old.heeded → Acts honest (bare_process old.seen.dialect text old.status) old.seen new.seen (done reply new.status) → TellsFrom honest (λ d. bare_process d text) old new reply
tells_none honest text old new reply kept acts = record {
  acts = acts;
  events = kept ∙ sym (with_none old.heeded) ∙ ap (λ (es : List Event). with_events old.heeded es) (sym (no_events (nul_fault old.seen.dialect text) old.seen.dialect text old.status acts.sent));
}
