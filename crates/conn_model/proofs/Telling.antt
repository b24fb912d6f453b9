-- A call that tells events acts, and what it tells is appended.
use Rattle.std.proofs.Common.{◌≡◌, ℕ, ◌≤◌, Bool, true, List, [], ◌∷◌, ◌++◌, refl, ap, subst, sym, ◌∙◌, Some, None, append_assoc, append-nil}
use Rattle.conn_model.specs.Acts.{Acts, AreCounted, EndsTelling, Tells, sent_after}
use Rattle.conn_model.specs.Events.{Event, Heeded, with_events}
use Rattle.conn_model.specs.Process.{Process, Stop, Ask, Tell, Heard, Sent, IsAsked, TellsIf, logged, IsTold, events_of}
use Rattle.conn_model.specs.Seen.{Seen}
use Rattle.conn_model.specs.declared.item.Call.{Call}
use Rattle.conn_model.proofs.Goes.{stops, HasSent, joined, told_then}

-- nothing more was told
pub with_none : (h : Heeded) → with_events h [] ≡ h
with_none None = refl
with_none (Some es) = ap (λ (x : List Event). Some x) (append-nil es)

-- first these, then those
pub with_both : (h : Heeded) (es fs : List Event) → with_events (with_events h es) fs ≡ with_events h (es ++ fs)
with_both None es fs = refl
with_both (Some ds) es fs = ap (λ (x : List Event). Some x) (append_assoc ds es fs)

-- a call that tells nothing and asks nothing
pub stops_telling : {A : Type 0} (honest : Bool) (s : Seen) (h : Heeded) (a : A) → Tells honest (Stop a) s s h h a
stops_telling honest s h a = record { acts = stops honest s a; events = sym (with_none h) }

-- the same, where the process goes by another name
pub stays_telling : {A : Type 0} (honest : Bool) (p : Process A) (s : Seen) (h : Heeded) (a : A) → p ≡ Stop a → Tells honest p s s h h a
stays_telling {A} honest p s h a e = subst (λ (x : Process A). Tells honest x s s h h a) (sym e) (stops_telling honest s h a)

-- what is told changes nothing of what is asked
abbrev pub acts_telling : {A : Type 0} (honest : Bool) (event : Event) (p : Process A) (old new : Seen) (a : A) → Acts honest p old new a → Acts honest (Tell event p) old new a
acts_telling honest event p old new a acts = record {
  sent = acts.sent;
  follows = acts.follows;
  log = acts.log;
  items = acts.items;
  told = acts.told;
  tells = acts.tells;
  later = acts.later;
  counted = acts.counted;
  same = acts.same;
}

-- an event, and then the rest
pub tells_first : {A : Type 0} (honest : Bool) (event : Event) (p : Process A) (old new : Seen) (before mid after : Heeded) (a : A) → mid ≡ with_events before (event ∷ []) → Tells honest p old new mid after a → Tells honest (Tell event p) old new before after a
tells_first honest event p old new before mid after a told rest = record {
  acts = acts_telling honest event p old new a rest.acts;
  events = rest.events ∙ ap (λ (h : Heeded). with_events h (events_of p rest.acts.sent)) told ∙ with_both before (event ∷ []) (events_of p rest.acts.sent);
}

-- room alone was taken before the call
pub tells_in_room : {A : Type 0} (honest : Bool) (p : Process A) (old mid new : Seen) (before after : Heeded) (a : A) → mid ≡ record old { item_room = mid.item_room; byte_room = mid.byte_room } → Tells honest p mid new before after a → Tells honest p old new before after a
tells_in_room {A} honest p old mid new before after a keeps rest = record {
  acts = record {
    sent = rest.acts.sent;
    follows = rest.acts.follows;
    log = rest.acts.log ∙ ap (λ (x : Seen). logged x.log rest.acts.sent) keeps;
    items = rest.acts.items ∙ ap (λ (x : Seen). sent_after x.sent rest.acts.sent) keeps;
    told = λ e. subst (λ (x : Seen). IsTold x.dialect x.armed p x.log rest.acts.sent) keeps (rest.acts.told e);
    tells = subst (λ (x : Seen). EndsTelling x.told rest.acts.sent new.told) keeps rest.acts.tells;
    later = subst (λ (x : Seen). x.failures ≤ new.failures) keeps rest.acts.later;
    counted = subst (λ (x : Seen). AreCounted rest.acts.sent x.failures new.failures) keeps rest.acts.counted;
    same = record {
      dialect = rest.acts.same.dialect ∙ ap (λ (x : Seen). x.dialect) keeps;
      number = rest.acts.same.number ∙ ap (λ (x : Seen). x.number) keeps;
      armed = rest.acts.same.armed ∙ ap (λ (x : Seen). x.armed) keeps;
      quiet = rest.acts.same.quiet ∙ ap (λ (x : Seen). x.quiet) keeps;
      orders = rest.acts.same.orders ∙ ap (λ (x : Seen). x.orders) keeps;
    };
  };
  events = rest.events;
}

-- one ask, and then the rest by what was heard
pub asks_one : {A : Type 0} (honest : Bool) (call : Call) (text : List ℕ) (next : Heard → Process A) (i : Sent) (a : A) (old mid new : Seen) (before after : Heeded) → IsAsked call text i → (honest ≡ true → TellsIf old.dialect old.armed old.log i.item i.heard)
    → HasSent old mid i → Tells honest (next i.heard) mid new before after a → Tells honest (Ask call text next) old new before after a
asks_one honest call text next i a old mid new before after asked told one rest = record {
  acts = joined honest next i a old mid new one (Ask call text next) rest.acts (asked, rest.acts.follows) (λ e. (told e, told_then honest next i a old mid new one rest.acts.sent (rest.acts.told e)));
  events = rest.events;
}
