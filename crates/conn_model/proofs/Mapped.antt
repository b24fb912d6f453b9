-- A process with another value acts as the one that it is made of.
use Rattle.std.proofs.Common.{◌≡◌, Bool, List, [], ◌∷◌, refl, ap, sym, ◌∙◌, Option}
use Rattle.conn_model.specs.declared.item.Dialect.{Dialect}
use Rattle.conn_model.specs.declared.item.Item.{Item}
use Rattle.conn_model.specs.Acts.{Acts, Tells}
use Rattle.conn_model.specs.Armed.{Armed}
use Rattle.conn_model.specs.Events.{Event, Heeded, with_events}
use Rattle.conn_model.specs.Process.{Process, Stop, Ask, Look, Tell, map_process, Sent, Follows, IsTold, events_of}
use Rattle.conn_model.specs.Seen.{Seen}

module _ {A B : Type 0} (f : A → B) where
  pub follows_map : (p : Process A) (sent : List Sent) (a : A) → Follows p sent a → Follows (map_process f p) sent (f a)
  follows_map (Stop x) [] a h = ap f h
  follows_map (Stop x) (i ∷ is) a h = absurd h
  follows_map (Tell event p) sent a h = follows_map p sent a h
  follows_map (Ask call text next) [] a h = absurd h
  follows_map (Ask call text next) (i ∷ is) a h = (h.0, follows_map (next i.heard) is a h.1)
  follows_map (Look text next) [] a h = absurd h
  follows_map (Look text next) (i ∷ is) a h = (h.0, follows_map (next i.heard) is a h.1)

  pub told_map : (d : Dialect) (armed : List Armed) (p : Process A) (log : Option (List Item)) (sent : List Sent) → IsTold d armed p log sent → IsTold d armed (map_process f p) log sent
  told_map d armed (Stop x) log sent h = tt
  told_map d armed (Tell event p) log sent h = told_map d armed p log sent h
  told_map d armed (Ask call text next) log [] h = tt
  told_map d armed (Ask call text next) log (i ∷ is) h = (h.0, told_map d armed (next i.heard) _ is h.1)
  told_map d armed (Look text next) log [] h = tt
  told_map d armed (Look text next) log (i ∷ is) h = (h.0, told_map d armed (next i.heard) _ is h.1)

  events_map : (p : Process A) (sent : List Sent) → events_of (map_process f p) sent ≡ events_of p sent
  events_map (Stop x) sent = refl
  events_map (Tell event p) sent = ap (λ (es : List Event). event ∷ es) (events_map p sent)
  events_map (Ask call text next) [] = refl
  events_map (Ask call text next) (i ∷ is) = events_map (next i.heard) is
  events_map (Look text next) [] = refl
  events_map (Look text next) (i ∷ is) = events_map (next i.heard) is

  -- a call whose value is made of another's acts as that one
  abbrev pub acts_map : (honest : Bool) (p : Process A) (old new : Seen) (a : A) → Acts honest p old new a → Acts honest (map_process f p) old new (f a)
  acts_map honest p old new a acts = record {
    sent = acts.sent;
    follows = follows_map p acts.sent a acts.follows;
    log = acts.log;
    items = acts.items;
    told = λ e. told_map old.dialect old.armed p old.log acts.sent (acts.told e);
    tells = acts.tells;
    later = acts.later;
    counted = acts.counted;
    same = acts.same;
  }

  -- and tells what that one tells
  pub tells_map : (honest : Bool) (p : Process A) (old new : Seen) (before after : Heeded) (a : A) → Tells honest p old new before after a → Tells honest (map_process f p) old new before after (f a)
  tells_map honest p old new before after a tells = record {
    acts = acts_map honest p old new a tells.acts;
    events = tells.events ∙ ap (with_events before) (sym (events_map p tells.acts.sent));
  }
