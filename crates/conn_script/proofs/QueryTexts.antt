-- The texts and the ids of queries, with one query more.
use Rattle.std.proofs.Common.{◌≡◌, ℕ, Bool, true, false, cond, List, [], ◌∷◌, ◌++◌, Option, Some, None, refl, sym, ap, subst, ◌∙◌, eqb-true}
use Rattle.std.specs.Prelude.{◌==◌, ◌||◌, is_some, nat_eq}
use Rattle.std.specs.List.{find}
use Rattle.std.specs.Option.{option_map, option_or}
use Rattle.std.proofs.lemmas.List.Folds.{find-append}
use Rattle.conn_script.specs.Drafts.{is_taken}
use Rattle.conn_script.specs.Queries.{AreIds, AreTexts, is_declared, is_id, is_used, query_text}
use Rattle.conn_script.specs.Tables.{Table, value_at}
use Rattle.conn_script.specs.declared.query.Declared.{Declared}
use Rattle.conn_script.proofs.Keys.{any_more}

none_is : {A B : Type 0} (f : A → B) (o : Option A) → is_some (option_map f o) ≡ false → o ≡ None
none_is f None e = refl
none_is f (Some x) e = absurd (cc)

or_none : {A : Type 0} (o : Option A) → option_or o None ≡ o
or_none None = refl
or_none (Some x) = refl

first_false : (a b : Bool) → (a || b) ≡ false → a ≡ false
first_false true b h = absurd (cc)
first_false false b h = refl

-- the number of a query that is not taken is not declared
pub not_taken : (queries : List Declared) (q : Declared) → is_taken queries q ≡ false → is_declared queries q.number ≡ false
not_taken queries q h = first_false (is_declared queries q.number) (is_used queries q.id) h

-- the text where there is a query
abbrev text_of : Option Declared → Option (List ℕ)
text_of o = option_map (λ (p : Declared). p.text) o

-- the query of a number
abbrev query_of : List Declared → ℕ → Option Declared
query_of queries n = find (λ (p : Declared). p.number == n) queries

text_more : (queries : List Declared) (q : Declared) (n : ℕ) (b : Bool) → (q.number == n) ≡ b → query_text (queries ++ q ∷ []) n ≡ text_of (option_or (query_of queries n) (cond b (Some q) None))
text_more queries q n b e =
    ap text_of (find-append (λ (p : Declared). p.number == n) queries (q ∷ []))
    ∙ ap (λ (c : Bool). text_of (option_or (query_of queries n) (cond c (Some q) None))) e

-- none of the others has its number
text_new : (queries : List Declared) (q : Declared) (n : ℕ) → (q.number == n) ≡ true → is_declared queries q.number ≡ false → query_text (queries ++ q ∷ []) n ≡ Some q.text
text_new queries q n e new =
    let same : q.number ≡ n = eqb-true q.number n e in
    let none : query_of queries n ≡ None = none_is (λ (p : Declared). p.text) (query_of queries n) (subst (λ (m : ℕ). is_declared queries m ≡ false) same new) in
    text_more queries q n true e ∙ ap (λ (o : Option Declared). text_of (option_or o (Some q))) none

text_old : (queries : List Declared) (q : Declared) (n : ℕ) → (q.number == n) ≡ false → query_text (queries ++ q ∷ []) n ≡ query_text queries n
text_old queries q n e = text_more queries q n false e ∙ ap text_of (or_none (query_of queries n))

pub texts_more : (before after : Table ℕ (List ℕ)) (queries : List Declared) (q : Declared) → AreTexts before queries → is_declared queries q.number ≡ false
    → ((n : ℕ) → value_at nat_eq after n ≡ cond (q.number == n) (Some q.text) (value_at nat_eq before n)) → AreTexts after (queries ++ q ∷ [])
texts_more before after queries q h new puts n = by_number (q.number == n) refl
  where
    put : (b : Bool) → (q.number == n) ≡ b → value_at nat_eq after n ≡ cond b (Some q.text) (value_at nat_eq before n)
    put b e = puts n ∙ ap (λ (c : Bool). cond c (Some q.text) (value_at nat_eq before n)) e

    by_number : (b : Bool) → (q.number == n) ≡ b → value_at nat_eq after n ≡ query_text (queries ++ q ∷ []) n
    by_number true e = put true e ∙ sym (text_new queries q n e new)
    by_number false e = put false e ∙ h n ∙ sym (text_old queries q n e)

pub ids_more : (before after : Table ℕ (Unit {0})) (queries : List Declared) (q : Declared) → AreIds before queries
    → ((n : ℕ) → is_some (value_at nat_eq after n) ≡ cond (is_id q.id n) true (is_some (value_at nat_eq before n))) → AreIds after (queries ++ q ∷ [])
ids_more before after queries q h adds n = adds n ∙ ap (cond (is_id q.id n) true) (h n) ∙ sym (any_more (λ (p : Declared). is_id p.id n) queries q)
