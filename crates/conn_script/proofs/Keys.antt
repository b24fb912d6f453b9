-- The sets of the keys that lines name, with one line more.
use Rattle.std.proofs.Common.{◌≡◌, ℕ, Bool, true, false, cond, List, [], ◌∷◌, ◌++◌, Option, Some, None, refl, sym, ap, ◌∙◌, arith}
use Rattle.std.specs.Prelude.{◌||◌}
use Rattle.std.specs.List.{list_any}
use Rattle.std.specs.BTreeMap.{is_at}
use Rattle.std.specs.Ordering.{nat_cmp}
use Rattle.std.specs.declared.cmp.Ordering.{Ordering}
use Rattle.std.proofs.lemmas.List.Folds.{list_any-append}
use Rattle.conn_script.specs.Keys.{is_key, is_named_in, AreKeys}
use Rattle.conn_script.specs.Plans.{compare_items}

pub any_more : {X : Type 0} (test : X → Bool) (xs : List X) (x : X) → list_any test (xs ++ x ∷ []) ≡ cond (test x) true (list_any test xs)
any_more test xs x = list_any-append test xs (x ∷ []) ∙ turned (list_any test xs) (test x)
  where
    turned : (a b : Bool) → (a || (b || false)) ≡ cond b true a
    turned true true = refl
    turned true false = refl
    turned false true = refl
    turned false false = refl

-- which of two items is asked for is the same
pub turned_item : (a b : ℕ × ℕ) → is_at (compare_items a) b ≡ is_at (compare_items b) a
turned_item a b = grind arith

-- and which of two numbers
pub turned_number : (a b : ℕ) → is_at (nat_cmp a) b ≡ is_at (nat_cmp b) a
turned_number a b = grind arith

module _ {X K : Type 0} (compare : K → K → Ordering) (key : X → Option K) where
  named_more : (lines : List X) (x : X) (o : Option K) (k : K) → key x ≡ o → is_named_in compare key (lines ++ x ∷ []) k ≡ cond (is_key compare k o) true (is_named_in compare key lines k)
  named_more lines x o k e =
      any_more (λ (y : X). is_key compare k (key y)) lines x ∙ ap (λ (p : Option K). cond (is_key compare k p) true (is_named_in compare key lines k)) e

  -- a line that names a key, which the set gets
  pub keys_more : (keys new : List K) (lines : List X) (x : X) (j : K) → ((a b : K) → is_at (compare a) b ≡ is_at (compare b) a) → AreKeys compare key keys lines → key x ≡ Some j
      → ((q : K) → list_any (is_at (compare q)) new ≡ cond (is_at (compare j) q) true (list_any (is_at (compare q)) keys)) → AreKeys compare key new (lines ++ x ∷ [])
  keys_more keys new lines x j turns h e more k =
      more k ∙ ap (λ (b : Bool). cond b true (list_any (is_at (compare k)) keys)) (turns j k) ∙ ap (cond (is_at (compare k) j) true) (h k) ∙ sym (named_more lines x (Some j) k e)

  -- a line that names none
  pub keys_same : (keys : List K) (lines : List X) (x : X) → AreKeys compare key keys lines → key x ≡ None → AreKeys compare key keys (lines ++ x ∷ [])
  keys_same keys lines x h e k = h k ∙ sym (named_more lines x None k e)
