-- Names that rise.
use Rattle.std.proofs.Common.{◌≡◌, ℕ, ◌<◌, ◌≤◌, List, [], ◌∷◌, ◌++◌, refl, ap, ◌∙◌, sym, arith}
use Rattle.std.proofs.lemmas.List.{append_assoc}
use Rattle.conn_model.specs.declared.item.Call.{Call}
use Rattle.conn_model.specs.declared.item.Call.TheVariants.{Exec, Prepare, Run, Fetch}
use Rattle.conn_model.specs.declared.item.Item.{Item}
use Rattle.conn_cache.specs.Turns.{IsRising}
use Rattle.conn_reading.specs.Owning.{IsText, name_given, names_of}
use Rattle.conn_reading.specs.Sessions.{Each}

-- the first is greater than this, each other than the one before it, and the last is at most that
abbrev pub RisesTo : ℕ → List ℕ → ℕ → Type 0
RisesTo least [] most = least ≤ most
RisesTo least (n ∷ ns) most = (least < n) × RisesTo n ns most

pub rises_from : (a b c : ℕ) (ns : List ℕ) → a ≤ b → RisesTo b ns c → RisesTo a ns c
rises_from a b c [] l h = omega arith
rises_from a b c (n ∷ ns) l h = (omega (arith, l, h.0), h.1)

pub rises-append : (a b c : ℕ) (ms ns : List ℕ) → RisesTo a ms b → RisesTo b ns c → RisesTo a (ms ++ ns) c
rises-append a b c [] ns h g = rises_from a b c ns h g
rises-append a b c (m ∷ ms) ns h g = (h.0, rises-append m b c ms ns h.1 g)

pub is_rising : (a b : ℕ) (ns : List ℕ) → RisesTo a ns b → IsRising a ns
is_rising a b [] h = tt
is_rising a b (n ∷ ns) h = (h.0, is_rising n b ns h.1)

pub names-append : (xs ys : List Item) → names_of (xs ++ ys) ≡ names_of xs ++ names_of ys
names-append [] ys = refl
names-append (x ∷ xs) ys = ap (λ (l : List ℕ). name_given x.call ++ l) (names-append xs ys) ∙ sym (append_assoc (name_given x.call) (names_of xs) (names_of ys))

-- ---- items that give no name

-- the call gives none
abbrev pub IsUnnamed : Call → Type 0
IsUnnamed call = name_given call ≡ []

pub text_unnamed : (call : Call) → IsText call → IsUnnamed call
text_unnamed Exec h = refl
text_unnamed (Prepare name) h = absurd h
text_unnamed (Run binds) h = absurd h
text_unnamed Fetch h = refl

pub unnamed : (items : List Item) → Each (λ (i : Item). IsUnnamed i.call) items → names_of items ≡ []
unnamed [] h = refl
unnamed (i ∷ is) h = ap (λ (l : List ℕ). l ++ names_of is) h.0 ∙ unnamed is h.1

pub texts_unnamed : (items : List Item) → Each (λ (i : Item). IsText i.call) items → names_of items ≡ []
texts_unnamed [] h = refl
texts_unnamed (i ∷ is) h = ap (λ (l : List ℕ). l ++ names_of is) (text_unnamed i.call h.0) ∙ texts_unnamed is h.1
