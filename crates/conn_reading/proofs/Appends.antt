-- What a call appended to a lawful log is read.
use Rattle.std.proofs.Common.{append_assoc, append-nil, ◌≡◌, ℕ, Bool, true, false, cond, List, [], ◌∷◌, ◌++◌, ◌&&◌, refl, ap, subst, sym, ◌∙◌, Option, Some, None}
use Rattle.std.specs.Option.{option_and_then}
use Rattle.std.specs.Str.{bytes_eq}
use Rattle.std.proofs.lemmas.Slice.Eq.{bytes_eq-Decides}
use Rattle.conn_model.specs.Acts.{Acts}
use Rattle.conn_model.specs.Process.{Process, Stop, Ask, Look, Tell, Sent, Heard, Follows, IsAsked, IsItem, IsLooked, TellsBy, TellsIf, GivesBy, logged, with_sent, IsTold, heard_of, given_rows}
use Rattle.conn_model.specs.Armed.{Armed, rows_of}
use Rattle.conn_model.specs.Seen.{Seen}
use Rattle.conn_model.specs.States.{State, state_of, step}
use Rattle.conn_model.specs.declared.item.Call.{Call}
use Rattle.conn_model.specs.declared.item.Call.TheVariants.{Exec, Prepare, Run, Fetch}
use Rattle.conn_model.specs.declared.item.Dialect.{Dialect}
use Rattle.conn_model.specs.declared.item.Item.{Item}
use Rattle.conn_manager.proofs.Kept.{one_step}
use Rattle.conn_reading.specs.Reading.{Read, read, ReadsItems, is_fetch, BeginsAnew}
use Rattle.conn_reading.proofs.Same.{call_same}
use Rattle.conn_reading.proofs.Looks.{LooksWell}

-- the items that a call added to a log, which its process reads
pub record HasRead {A : Type 0} (looks : Bool) (d : Dialect) (armed : List Armed) (s : State) (p : Process A) (a : A) (items : List Item) (log : Option (List Item)) : Type 0 where
  pub more : List Item
  pub state : State
  pub is_log : log ≡ Some (items ++ more)
  pub lawful : state_of d (items ++ more) ≡ Some state
  pub anew : looks ≡ false → BeginsAnew more
  pub reads : ReadsItems d armed s p more a state

-- what follows items that begin anew, or none
pub anew-append : (xs ys : List Item) → BeginsAnew xs → BeginsAnew ys → BeginsAnew (xs ++ ys)
anew-append [] ys h g = g
anew-append (x ∷ xs) ys h g = h

-- what was asked is the item of the call, which is none of rows
pub asked_item : (call : Call) (text : List ℕ) (i : Sent) → IsAsked call text i → IsItem call text i
asked_item Exec text i h = h.0
asked_item (Prepare name) text i h = h
asked_item (Run binds) text i h = h
asked_item Fetch text i h = absurd h

pub asked_anew : (call : Call) (text : List ℕ) (i : Sent) → IsAsked call text i → is_fetch call ≡ false
asked_anew Exec text i h = refl
asked_anew (Prepare name) text i h = refl
asked_anew (Run binds) text i h = refl
asked_anew Fetch text i h = absurd h

tells_at : (d : Dialect) (armed : List Armed) (log : Option (List Item)) (o : Option Item) (x : Item) (i : Sent) → o ≡ Some x → TellsIf d armed log o i.heard → TellsBy d armed log x i.heard
tells_at d armed log o x i e h = rw e at h

module _ {A : Type 0} (d : Dialect) (armed : List Armed) where
  -- one item in front is read, and then the rest
  reads_one : (s mid after : State) (next : Heard → Process A) (i : Item) (more : List Item) (a : A) → step d s i ≡ Some mid
      → ReadsItems d armed mid (next (heard_of d armed mid i)) more a after → ReadsItems d armed s (Ask i.call i.text next) (i ∷ more) a after
  reads_one s mid after next i more a stepped rest = record {
    whatever_follows = λ others anew.
        let go : State → Option (Read A) = λ (x : State). read d armed x (next (heard_of d armed x i)) (more ++ others) in
        ap (λ (b : Bool). cond (b && bytes_eq i.text i.text) (option_and_then go (step d s i)) None) (call_same i.call)
        ∙ ap (λ (b : Bool). cond b (option_and_then go (step d s i)) None) ((bytes_eq-Decides i.text i.text).1 refl)
        ∙ ap (option_and_then go) stepped ∙ rest.whatever_follows others anew;
  }

  -- a refused row in front is read, and then the rest
  reads_refused : (s mid after : State) (text : List ℕ) (next : Heard → Process A) (i : Item) (more : List Item) (a : A) → i.call ≡ Fetch → i.text ≡ [] → step d s i ≡ Some mid
      → ReadsItems d armed mid (next (heard_of d armed mid i)) more a after → ReadsItems d armed s (Look text next) (i ∷ more) a after
  reads_refused s mid after text next i more a c t stepped rest = record {
    whatever_follows = λ others anew.
        let go : State → Option (Read A) = λ (x : State). read d armed x (next (heard_of d armed x i)) (more ++ others) in
        let other : Option (Read A) = read d armed s (next (given_rows (rows_of armed text))) (i ∷ (more ++ others)) in
        ap (λ (x : Call). cond (is_fetch x) (cond (bytes_eq i.text []) (option_and_then go (step d s i)) None) other) c
        ∙ ap (λ (b : Bool). cond b (option_and_then go (step d s i)) None) ((bytes_eq-Decides i.text []).1 t)
        ∙ ap (option_and_then go) stepped ∙ rest.whatever_follows others anew;
  }

  -- where no refused row is in front, the rows of the text are read
  look_given : (s : State) (text : List ℕ) (next : Heard → Process A) (items : List Item) → BeginsAnew items → read d armed s (Look text next) items ≡ read d armed s (next (given_rows (rows_of armed text))) items
  look_given s text next [] anew = refl
  look_given s text next (i ∷ is) anew = ap (λ (b : Bool). cond b (cond (bytes_eq i.text []) (option_and_then (λ (x : State). read d armed x (next (heard_of d armed x i)) is) (step d s i)) None) (read d armed s (next (given_rows (rows_of armed text))) (i ∷ is))) anew

  -- one item and what follows it
  with_first : (looks : Bool) (s : State) (p : Process A) (next : Heard → Process A) (i : Sent) (is : List Sent) (a : A) (items : List Item) (item : Item) → i.item ≡ Some item → (told : TellsBy d armed (Some items) item i.heard)
      → state_of d items ≡ Some s → (looks ≡ false → is_fetch item.call ≡ false)
      → ((mid : State) (more : List Item) (after : State) → step d s item ≡ Some mid → ReadsItems d armed mid (next (heard_of d armed mid item)) more a after → ReadsItems d armed s p (item ∷ more) a after)
      → ((here : state_of d (items ++ item ∷ []) ≡ Some told.state) → (next_looks : Bool) × HasRead next_looks d armed told.state (next i.heard) a (items ++ item ∷ []) (logged (Some (items ++ item ∷ [])) is))
      → HasRead looks d armed s p a items (logged (Some items) (i ∷ is))
  with_first looks s p next i is a items item is_item told lawful anew reads rest_of =
      let here : state_of d (items ++ item ∷ []) ≡ Some told.state = (let e : items ++ item ∷ [] ≡ told.items = cc told.is_log in rw e told.lawful) in
      let stepped : step d s item ≡ Some told.state = one_step d items told.items s told.state item lawful told.is_log told.lawful in
      let both = rest_of here in
      let rest = both.1 in
      let joined : (items ++ item ∷ []) ++ rest.more ≡ items ++ item ∷ rest.more = append_assoc items (item ∷ []) rest.more in
      record {
        more = item ∷ rest.more;
        state = rest.state;
        is_log = ap (λ (o : Option Item). logged (with_sent (Some items) o) is) is_item ∙ rest.is_log ∙ ap (λ (l : List Item). Some l) joined;
        lawful = rw joined at rest.lawful;
        anew = anew;
        reads = reads told.state rest.more rest.state stepped (subst (λ (h : Heard). ReadsItems d armed told.state (next h) rest.more a rest.state) told.tells rest.reads);
      }

  reads_sent : (looks : Bool) (p : Process A) (sent : List Sent) (a : A) (items : List Item) (s : State) → LooksWell looks p → state_of d items ≡ Some s → Follows p sent a → IsTold d armed p (Some items) sent
      → HasRead looks d armed s p a items (logged (Some items) sent)
  reads_sent looks (Stop x) [] a items s well lawful follows told = record {
    more = [];
    state = s;
    is_log = ap (λ (l : List Item). Some l) (sym (append-nil items));
    lawful = rw (append-nil items) lawful;
    anew = λ e. tt;
    reads = record { whatever_follows = λ others anew. ap (λ (v : _). Some (record { value = v; state = s; left = others })) (sym follows) };
  }
  reads_sent looks (Stop x) (i ∷ is) a items s well lawful follows told = absurd follows
  reads_sent looks (Tell event p) sent a items s well lawful follows told =
      let rest = reads_sent looks p sent a items s well lawful follows told in
      record { more = rest.more; state = rest.state; is_log = rest.is_log; lawful = rest.lawful; anew = rest.anew; reads = record { whatever_follows = rest.reads.whatever_follows } }
  reads_sent looks (Ask call text next) [] a items s well lawful follows told = absurd follows
  reads_sent looks (Ask call text next) (i ∷ is) a items s well lawful follows told =
      let asked = asked_item call text i follows.0 in
      let item : Item = record { call = call; text = text; answer = asked.answer } in
      let tells : TellsBy d armed (Some items) item i.heard = tells_at d armed (Some items) i.item item i asked.is told.0 in
      with_first looks s (Ask call text next) next i is a items item asked.is tells lawful (λ e. asked_anew call text i follows.0)
      (λ mid more after stepped h. reads_one s mid after next item more a stepped h)
      (λ here. (true, reads_sent true (next i.heard) is a (items ++ item ∷ []) tells.state (well i.heard) here follows.1 (subst (λ (o : Option Item). IsTold d armed (next i.heard) (with_sent (Some items) o) is) asked.is told.1)))
  reads_sent looks (Look text next) [] a items s well lawful follows told = absurd follows
  reads_sent looks (Look text next) (i ∷ is) a items s well lawful follows told =
      by_item i.item refl follows.0 told.0 (λ more_items t lawful' told'. reads_sent false (next i.heard) is a more_items t (well.1 i.heard) lawful' follows.1 told')
    where
      by_item : (o : Option Item) → i.item ≡ o → IsLooked o i.heard → GivesBy d armed text (Some items) o i.heard
          → ((more_items : List Item) (t : State) → state_of d more_items ≡ Some t → IsTold d armed (next i.heard) (Some more_items) is → HasRead false d armed t (next i.heard) a more_items (logged (Some more_items) is))
          → HasRead looks d armed s (Look text next) a items (logged (Some items) (i ∷ is))
      by_item None e looked gives rest_of =
          let rest : HasRead false d armed s (next i.heard) a items (logged (Some items) is) =
          rest_of items s lawful (subst (λ (x : Option Item). IsTold d armed (next i.heard) (with_sent (Some items) x) is) e told.1) in
          record {
            more = rest.more;
            state = rest.state;
            is_log = ap (λ (x : Option Item). logged (with_sent (Some items) x) is) e ∙ rest.is_log;
            lawful = rest.lawful;
            anew = λ f. rest.anew refl;
            reads = record {
              whatever_follows = λ others anew.
                  look_given s text next (rest.more ++ others) (anew-append rest.more others (rest.anew refl) anew)
                  ∙ ap (λ (h : Heard). read d armed s (next h) (rest.more ++ others)) (sym gives)
                  ∙ rest.reads.whatever_follows others anew;
            };
          }
      by_item (Some item) e looked gives rest_of =
          with_first looks s (Look text next) next i is a items item e gives lawful (λ f. absurd (not_both looks well.0 f))
          (λ mid more after stepped h. reads_refused s mid after text next item more a (ap (λ (x : Item). x.call) looked.is) (ap (λ (x : Item). x.text) looked.is) stepped h)
          (λ here. (false, rest_of (items ++ item ∷ []) gives.state here (subst (λ (x : Option Item). IsTold d armed (next i.heard) (with_sent (Some items) x) is) e told.1)))
        where
          not_both : (b : Bool) → b ≡ true → b ≡ false → ⊥
          not_both b f g = cc

-- a call over an honest server is read from what its log grew by
pub reads_acts : {A : Type 0} (p : Process A) (old new : Seen) (a : A) (items : List Item) (s : State) → LooksWell false p → old.log ≡ Some items → state_of old.dialect items ≡ Some s → Acts true p old new a
    → HasRead false old.dialect old.armed s p a items new.log
reads_acts p old new a items s well is_log lawful acts =
    subst (λ (l : Option (List Item)). HasRead false old.dialect old.armed s p a items l) (sym (acts.log ∙ ap (λ (l : Option (List Item)). logged l acts.sent) is_log))
    (reads_sent old.dialect old.armed false p acts.sent a items s well lawful acts.follows (subst (λ (l : Option (List Item)). IsTold old.dialect old.armed p l acts.sent) is_log (acts.told refl)))
