-- What a process reads of a finished log, item by item.
use Rattle.std.proofs.Common.{◌≡◌, Bool, true, false, ◌&&◌, inl, inr, List, [], ◌∷◌, ◌++◌, if◌then◌else◌, refl, ap, ◌∙◌, subst, Option, Some, None}
use Rattle.std.specs.Option.{option_and_then}
use Rattle.std.specs.Str.{bytes_eq}
use Rattle.std.proofs.lemmas.Slice.Eq.{bytes_eq-Decides}
use Rattle.conn_model.specs.Process.{Process, Stop, Ask, Look, Tell, Heard, plain_heard, given_rows, heard_of, columns_heard, affected_heard, row_refused, map_process}
use Rattle.conn_model.specs.Armed.{Armed, rows_of}
use Rattle.conn_model.specs.States.{State, step, told_of}
use Rattle.conn_model.specs.declared.item.Answer.{Answer}
use Rattle.conn_model.specs.declared.item.Answer.TheVariants.{Accepted, Refused}
use Rattle.conn_model.specs.declared.item.Call.{Call}
use Rattle.conn_model.specs.declared.item.Call.TheVariants.{Exec, Prepare, Run, Fetch}
use Rattle.conn_model.specs.declared.item.Dialect.{Dialect}
use Rattle.conn_model.specs.declared.item.Item.{Item}
use Rattle.conn_reading.specs.Calls.{same_call}
use Rattle.conn_reading.specs.Reading.{Read, read, is_fetch, Beside, Reads}
use Rattle.conn_reading.proofs.Same.{call_is}

-- a front of what was left: these items, one by one
pub record ReadsFront {A : Type 0} (d : Dialect) (s : State) (p : Process A) (left : List Item) (r : Read A) : Type 0 where
  pub used : List Item
  pub all : left ≡ used ++ r.left
  pub each : Reads d s p used r.value r.state

-- beside an item
abbrev beside_of : List Armed → Item → Beside
beside_of armed i = record { columns = columns_heard armed i.call i.text i.answer; affected = affected_heard i.call i.text i.answer; rows = [] }

fetch_is : (call : Call) → is_fetch call ≡ true → call ≡ Fetch
fetch_is Exec h = absurd (cc)
fetch_is (Prepare name) h = absurd (cc)
fetch_is (Run binds) h = absurd (cc)
fetch_is Fetch h = refl

item_at : (i : Item) (c : Call) (t : List _) (a : Answer) → i.call ≡ c → i.text ≡ t → i.answer ≡ a → i ≡ record { call = c; text = t; answer = a }
item_at i c t a e f g =
    ap (λ (x : Call). record { call = x; text = i.text; answer = i.answer }) e
    ∙ ap (λ (x : List _). record { call = c; text = x; answer = i.answer }) f
    ∙ ap (λ (x : Answer). record { call = c; text = t; answer = x }) g

module _ {A : Type 0} (d : Dialect) (armed : List Armed) where
  -- rows that were given
  given_front : (s : State) (text : List _) (next : Heard → Process A) (items : List Item) (r : Read A) → ReadsFront d s (next (given_rows (rows_of armed text))) items r → ReadsFront d s (Look text next) items r
  given_front s text next items r h = record { used = h.used; all = h.all; each = given h.used h.each }
    where
      given : (used : List Item) → Reads d s (next (given_rows (rows_of armed text))) used r.value r.state → Reads d s (Look text next) used r.value r.state
      given [] g = (rows_of armed text, g)
      given (i ∷ is) g = inl (rows_of armed text, g)

  -- a row that was refused
  refused_front : (s after : State) (text : List _) (next : Heard → Process A) (i : Item) (is : List Item) (r : Read A) (answer : Answer) → i.call ≡ Fetch → i.text ≡ [] → i.answer ≡ answer → step d s i ≡ Some after
      → ReadsFront d after (next (heard_of d armed after i)) is r → ReadsFront d s (Look text next) (i ∷ is) r
  refused_front s after text next i is r Accepted c t a stepped h =
      let same : i ≡ record { call = Fetch; text = []; answer = Accepted } = item_at i Fetch [] Accepted c t a in
      let none : step d s (record { call = Fetch; text = []; answer = Accepted }) ≡ Some after = subst (λ (x : Item). step d s x ≡ Some after) same stepped in
      absurd (cc)
  refused_front s after text next i is r (Refused x e) c t a stepped h =
      let same : i ≡ row_refused x e = item_at i Fetch [] (Refused x e) c t a in
      let g : ReadsFront d after (next (plain_heard (Some x) (told_of d after))) is r = subst (λ (y : Item). ReadsFront d after (next (heard_of d armed after y)) is r) same h in
      record { used = i ∷ g.used; all = ap (λ (l : List Item). i ∷ l) g.all; each = inr (x, e, same, (after, stepped, g.each)) }

  pub reads_front : (s : State) (p : Process A) (items : List Item) (r : Read A) → read d armed s p items ≡ Some r → ReadsFront d s p items r
  reads_front s (Stop x) items r is =
      let first : Read A = record { value = x; state = s; left = items } in
      let e : first ≡ r = cc in
      subst (λ (q : Read A). ReadsFront d s (Stop x) items q) e (record { used = []; all = refl; each = (refl, refl) })
  reads_front s (Tell event p) items r is = told_front (reads_front s p items r is)
    where
      told_front : ReadsFront d s p items r → ReadsFront d s (Tell event p) items r
      told_front h = record { used = h.used; all = h.all; each = h.each }
  reads_front s (Ask call text next) [] r is = absurd (cc)
  reads_front s (Ask call text next) (i ∷ is) r reads =
      tested (same_call i.call call) (bytes_eq i.text text) (step d s i) refl refl refl reads (λ after e. reads_front after (next (heard_of d armed after i)) is r e)
    where
      tested : (a b : Bool) (o : Option State) → same_call i.call call ≡ a → bytes_eq i.text text ≡ b → step d s i ≡ o
          → (if a && b then option_and_then (λ (after : State). read d armed after (next (heard_of d armed after i)) is) o else None) ≡ Some r
          → ((after : State) → read d armed after (next (heard_of d armed after i)) is ≡ Some r → ReadsFront d after (next (heard_of d armed after i)) is r)
          → ReadsFront d s (Ask call text next) (i ∷ is) r
      tested false b o p q t e rest = absurd (cc)
      tested true false o p q t e rest = absurd (cc)
      tested true true None p q t e rest = absurd (cc)
      tested true true (Some after) p q t e rest =
          let h = rest after e in
          record { used = i ∷ h.used; all = ap (λ (l : List Item). i ∷ l) h.all; each = (call_is i.call call p, (bytes_eq-Decides i.text text).0 q, (after, t, (beside_of armed i, h.each))) }
  reads_front s (Look text next) [] r reads = given_front s text next [] r (reads_front s (next (given_rows (rows_of armed text))) [] r reads)
  reads_front s (Look text next) (i ∷ is) r reads =
      tested (is_fetch i.call) (bytes_eq i.text []) (step d s i) refl refl refl reads (λ after e. reads_front after (next (heard_of d armed after i)) is r e) (λ e. reads_front s (next (given_rows (rows_of armed text))) (i ∷ is) r e)
    where
      tested : (a b : Bool) (o : Option State) → is_fetch i.call ≡ a → bytes_eq i.text [] ≡ b → step d s i ≡ o
          → (if a then (if b then option_and_then (λ (after : State). read d armed after (next (heard_of d armed after i)) is) o else None) else read d armed s (next (given_rows (rows_of armed text))) (i ∷ is)) ≡ Some r
          → ((after : State) → read d armed after (next (heard_of d armed after i)) is ≡ Some r → ReadsFront d after (next (heard_of d armed after i)) is r)
          → (read d armed s (next (given_rows (rows_of armed text))) (i ∷ is) ≡ Some r → ReadsFront d s (next (given_rows (rows_of armed text))) (i ∷ is) r)
          → ReadsFront d s (Look text next) (i ∷ is) r
      tested false b o p q t e rest given = given_front s text next (i ∷ is) r (given e)
      tested true false o p q t e rest given = absurd (cc)
      tested true true None p q t e rest given = absurd (cc)
      tested true true (Some after) p q t e rest given = refused_front s after text next i is r i.answer (fetch_is i.call p) ((bytes_eq-Decides i.text []).0 q) refl t (rest after e)

-- ---- another value

-- a process whose value is made of another's reads as that one
pub reads_map : {A B : Type 0} (f : A → B) (d : Dialect) (s : State) (p : Process A) (items : List Item) (a : A) (end : State) → Reads d s p items a end → Reads d s (map_process f p) items (f a) end
reads_map f d s (Stop x) [] a end h = (ap f h.0, h.1)
reads_map f d s (Stop x) (i ∷ is) a end h = absurd h
reads_map f d s (Tell event p) items a end h = reads_map f d s p items a end h
reads_map f d s (Ask call text next) [] a end h = absurd h
reads_map f d s (Ask call text next) (i ∷ is) a end h = (h.0, h.1, (h.2.0, h.2.1, (h.2.2.0, reads_map f d h.2.0 (next _) is a end h.2.2.1)))
reads_map f d s (Look text next) [] a end h = (h.0, reads_map f d s (next _) [] a end h.1)
reads_map f d s (Look text next) (i ∷ is) a end (inl h) = inl (h.0, reads_map f d s (next _) (i ∷ is) a end h.1)
reads_map f d s (Look text next) (i ∷ is) a end (inr h) = inr (h.0, h.1, h.2, (h.3.0, h.3.1, reads_map f d h.3.0 (next _) is a end h.3.2))

-- the value that a process has where another is made of it
pub record IsMapped {A B : Type 0} (f : A → B) (d : Dialect) (s : State) (p : Process A) (items : List Item) (b : B) (end : State) : Type 0 where
  pub value : A
  pub made : b ≡ f value
  pub reads : Reads d s p items value end

pub reads_unmap : {A B : Type 0} (f : A → B) (d : Dialect) (s : State) (p : Process A) (items : List Item) (b : B) (end : State) → Reads d s (map_process f p) items b end → IsMapped f d s p items b end
reads_unmap f d s (Stop x) [] b end h = record { value = x; made = h.0; reads = (refl, h.1) }
reads_unmap f d s (Stop x) (i ∷ is) b end h = absurd h
reads_unmap f d s (Tell event p) items b end h =
    let g = reads_unmap f d s p items b end h in
    record { value = g.value; made = g.made; reads = g.reads }
reads_unmap f d s (Ask call text next) [] b end h = absurd h
reads_unmap f d s (Ask call text next) (i ∷ is) b end h =
    let g = reads_unmap f d h.2.0 (next _) is b end h.2.2.1 in
    record { value = g.value; made = g.made; reads = (h.0, h.1, (h.2.0, h.2.1, (h.2.2.0, g.reads))) }
reads_unmap f d s (Look text next) [] b end h =
    let g = reads_unmap f d s (next _) [] b end h.1 in
    record { value = g.value; made = g.made; reads = (h.0, g.reads) }
reads_unmap f d s (Look text next) (i ∷ is) b end (inl h) =
    let g = reads_unmap f d s (next _) (i ∷ is) b end h.1 in
    record { value = g.value; made = g.made; reads = inl (h.0, g.reads) }
reads_unmap f d s (Look text next) (i ∷ is) b end (inr h) =
    let g = reads_unmap f d h.3.0 (next _) is b end h.3.2 in
    record { value = g.value; made = g.made; reads = inr (h.0, h.1, h.2, (h.3.0, h.3.1, g.reads)) }
