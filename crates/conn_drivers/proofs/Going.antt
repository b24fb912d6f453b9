-- A process goes on from where it stands.
use Rattle.std.proofs.Common.{◌≡◌, ℕ, Bool, true, List, [], ◌∷◌, subst}
use Rattle.conn_model.specs.Acts.{Acts, AreCounted, EndsTelling, Tells, sent_after}
use Rattle.conn_model.specs.Events.{Event, Heeded, with_events}
use Rattle.conn_model.specs.Process.{Process, Ask, Look, Tell, Follows, GivesBy, Heard, IsLooked, IsTold, Sent, hear, hear_rows, logged}
use Rattle.conn_model.specs.Seen.{Seen}
use Rattle.conn_model.specs.Statements.{closes}
use Rattle.conn_model.specs.declared.item.Call.{Call}
use Rattle.conn_model.proofs.Goes.{HasSent, has_asked, joined, told_then}
use Rattle.conn_model.proofs.Telling.{asks_one, tells_first, tells_in_room}
use Rattle.conn_drivers.specs.Queried.{Goes}

-- rows alone that were asked, as their parts
record HasLooked (honest : Bool) (text : List ℕ) (old new : Seen) (h : Heard) : Type 0 where
  sent : Sent
  looked : IsLooked sent.item sent.heard
  heard : h ≡ sent.heard
  told : honest ≡ true → GivesBy old.dialect old.armed text old.log sent.item sent.heard
  one : HasSent old new sent

has_looked : (honest : Bool) (text : List ℕ) (old new : Seen) (h : Heard) → Acts honest (hear_rows text) old new h → HasLooked honest text old new h
has_looked honest text old new h acts = by_sent acts.sent acts.follows acts.log acts.items acts.told acts.tells acts.counted
  where
    by_sent : (sent : List Sent) → Follows (hear_rows text) sent h → new.log ≡ logged old.log sent → new.sent ≡ sent_after old.sent sent → (honest ≡ true → IsTold old.dialect old.armed (hear_rows text) old.log sent)
        → EndsTelling old.told sent new.told → AreCounted sent old.failures new.failures → HasLooked honest text old new h
    by_sent [] follows log items told tells counted = absurd follows
    by_sent (i ∷ []) follows log items told tells counted = record {
      sent = i;
      looked = follows.0;
      heard = follows.1;
      told = λ e. (told e).0;
      one = record { log = log; items = items; tells = tells; later = acts.later; counted = counted.0; same = acts.same };
    }
    by_sent (i ∷ j ∷ js) follows log items told tells counted = absurd follows.1

module _ {A : Type 0} (honest : Bool) where
  -- it stands where it began
  pub goes_nowhere : (p : Process A) (s : Seen) (h : Heeded) → Goes honest p p s s h h
  goes_nowhere p s h = record { then = λ new after a rest. rest }

  -- it goes on, and then further on
  pub goes_further : (p q r : Process A) (old mid new : Seen) (before now after : Heeded) → Goes honest p q old mid before now → Goes honest q r mid new now after → Goes honest p r old new before after
  goes_further p q r old mid new before now after f g = record { then = λ last told a rest. f.then last told a (g.then last told a rest) }

  -- one call was heard
  pub goes_heard : (call : Call) (text : List ℕ) (next : Heard → Process A) (h : Heard) (old mid : Seen) (told : Heeded) → Acts honest (hear call text) old mid h → Goes honest (Ask call text next) (next h) old mid told told
  goes_heard call text next h old mid told first = record {
    then = λ new after a rest.
        let one = has_asked honest call text old mid h first in
        asks_one honest call text next one.sent a old mid new told after one.asked one.told one.one (subst (λ (x : Heard). Tells honest (next x) mid new told after a) one.heard rest);
  }

  -- an event was told
  pub goes_told : (event : Event) (p : Process A) (s : Seen) (before now : Heeded) → now ≡ with_events before (event ∷ []) → Goes honest (Tell event p) p s s before now
  goes_told event p s before now is = record { then = λ new after a rest. tells_first honest event p s new before now after a is rest }

  -- room was taken before
  pub goes_in_room : (p q : Process A) (old roomy mid : Seen) (before now : Heeded) → roomy ≡ record old { item_room = roomy.item_room; byte_room = roomy.byte_room } → Goes honest p q roomy mid before now → Goes honest p q old mid before now
  goes_in_room p q old roomy mid before now keeps g = record { then = λ new after a rest. tells_in_room honest p old roomy new before after a keeps (g.then new after a rest) }

  -- rows were asked
  pub goes_looked : (text : List ℕ) (next : Heard → Process A) (h : Heard) (old mid : Seen) (told : Heeded) → Acts honest (hear_rows text) old mid h → Goes honest (Look text next) (next h) old mid told told
  goes_looked text next h old mid told first =
      let one = has_looked honest text old mid h first in
      let i = one.sent in
      record {
        then = λ new after a rest.
            let here = subst (λ (x : Heard). Tells honest (next x) mid new told after a) one.heard rest in
            record {
              acts = joined honest next i a old mid new one.one (Look text next) here.acts (one.looked, here.acts.follows) (λ e. (one.told e, told_then honest next i a old mid new one.one here.acts.sent (here.acts.told e)));
              events = here.events;
            };
      }

  closed_later : (p : Process A) (statement : ℕ) (old new : Seen) (before after : Heeded) (a : A) → Tells honest p (closes statement old) new before after a → Tells honest p old new before after a
  closed_later p statement old new before after a tells = record {
    acts = record {
      sent = tells.acts.sent;
      follows = tells.acts.follows;
      log = tells.acts.log;
      items = tells.acts.items;
      told = tells.acts.told;
      tells = tells.acts.tells;
      later = tells.acts.later;
      counted = tells.acts.counted;
      same = record { dialect = tells.acts.same.dialect; number = tells.acts.same.number; armed = tells.acts.same.armed; quiet = tells.acts.same.quiet; orders = tells.acts.same.orders };
    };
    events = tells.events;
  }

  -- a statement was closed after that
  pub goes_closed : (p q : Process A) (statement : ℕ) (old mid shut : Seen) (before now : Heeded) → shut ≡ closes statement mid → Goes honest p q old mid before now → Goes honest p q old shut before now
  goes_closed p q statement old mid shut before now is g = record {
    then = λ new after a rest. g.then new after a (closed_later q statement mid new now after a (subst (λ (x : Seen). Tells honest q x new now after a) is rest));
  }
