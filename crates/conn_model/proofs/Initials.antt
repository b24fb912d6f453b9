-- The class of a text by its first byte.
use Rattle.std.proofs.Common.{◌≡◌, ◌<◌, ℕ, Bool, true, false, List, [], ◌∷◌, codes, refl, sym, ◌∙◌, ap, subst, slice_index, arith}
use Rattle.std.proofs.lemmas.Bool.Decides.{nat_tests}
use Rattle.std.specs.Prelude.{if◌then◌else◌, ◌||◌, nat_eq}
use Rattle.conn_model.specs.Classes.{begins, same_text, is_nothing, is_built, is_begin, is_write, number_behind, named_class, savepoint_words, rollback_to_words, release_words, class}
use Rattle.conn_model.specs.declared.class.Class.TheVariants.{Begin, Savepoint, RollbackTo, Release, Commit, Rollback, Write, Other}

-- what is so of each text that begins with a byte
at_first : (P : List ℕ → Type 0) (b : ℕ) → 0 < b → ((xs : List ℕ) → P (b ∷ xs)) → (t : List ℕ) → slice_index t 0 ≡ b → P t
at_first P b low h [] e = absurd (omega arith)
at_first P b low h (x ∷ xs) e = subst (λ (y : ℕ). P (y ∷ xs)) (sym e) (h xs)

or_false : (b : Bool) → (b || false) ≡ b
or_false true = refl
or_false false = refl

pub initial-insert : (t : List ℕ) → slice_index t 0 ≡ 73 → class t ≡ (if begins t (codes "INSERT") then Write else Other)
unfolding begins same_text is_built is_begin is_write number_behind class
initial-insert t e = at_first (λ s. class s ≡ (if begins s (codes "INSERT") then Write else Other)) 73 (omega arith) (λ xs. simp or_false) t e

pub initial-update : (t : List ℕ) → slice_index t 0 ≡ 85 → class t ≡ (if begins t (codes "UPDATE") then Write else Other)
unfolding begins same_text is_built is_begin is_write number_behind class
initial-update t e = at_first (λ s. class s ≡ (if begins s (codes "UPDATE") then Write else Other)) 85 (omega arith) (λ xs. simp or_false) t e

pub initial-delete : (t : List ℕ) → slice_index t 0 ≡ 68 → class t ≡ (if begins t (codes "DELETE") then Write else Other)
unfolding begins same_text is_built is_begin is_write number_behind class
initial-delete t e = at_first (λ s. class s ≡ (if begins s (codes "DELETE") then Write else Other)) 68 (omega arith) (λ xs. refl) t e

pub initial-begin : (t : List ℕ) → slice_index t 0 ≡ 66 → class t ≡ (if is_begin t then Begin else Other)
unfolding begins same_text is_built is_begin is_write number_behind class
initial-begin t e = at_first (λ s. class s ≡ (if is_begin s then Begin else Other)) 66 (omega arith) (λ xs. refl) t e

pub initial-commit : (t : List ℕ) → slice_index t 0 ≡ 67 → class t ≡ (if same_text t (codes "COMMIT") then Commit else Other)
unfolding begins same_text is_built is_begin is_write number_behind class
initial-commit t e = at_first (λ s. class s ≡ (if same_text s (codes "COMMIT") then Commit else Other)) 67 (omega arith) (λ xs. refl) t e

pub initial-rollback : (t : List ℕ) → slice_index t 0 ≡ 82 → class t ≡ (if same_text t (codes "ROLLBACK") then Rollback else named_class (number_behind rollback_to_words t) RollbackTo (named_class (number_behind release_words t) Release Other))
unfolding begins same_text is_built is_begin is_write number_behind class
initial-rollback t e = at_first (λ s. class s ≡ (if same_text s (codes "ROLLBACK") then Rollback else named_class (number_behind rollback_to_words s) RollbackTo (named_class (number_behind release_words s) Release Other))) 82 (omega arith) (λ xs. refl) t e

pub initial-savepoint : (t : List ℕ) → slice_index t 0 ≡ 83 → class t ≡ named_class (number_behind savepoint_words t) Savepoint Other
unfolding begins same_text is_built is_begin is_write number_behind class
initial-savepoint t e = at_first (λ s. class s ≡ named_class (number_behind savepoint_words s) Savepoint Other) 83 (omega arith) (λ xs. refl) t e

-- the test that reads its bytes the other way round
swapped : (x w : ℕ) → nat_eq x w ≡ false → nat_eq w x ≡ false
swapped x w h = grind (arith, nat_tests)

other_from : (y : ℕ) (ys : List ℕ) → nat_eq y 66 ≡ false → nat_eq y 67 ≡ false → nat_eq y 68 ≡ false → nat_eq y 73 ≡ false → nat_eq y 82 ≡ false → nat_eq y 83 ≡ false → nat_eq y 85 ≡ false → class (y ∷ ys) ≡ Other
unfolding begins same_text is_built is_begin is_write number_behind class
other_from y ys b c d i r s u =
    simp (b, c, r, swapped y 66 b, swapped y 68 d, swapped y 73 i, swapped y 82 r, swapped y 83 s, swapped y 85 u)

pub initial-other : (t : List ℕ) (x : ℕ) → x ≡ slice_index t 0 → nat_eq x 66 ≡ false → nat_eq x 67 ≡ false → nat_eq x 68 ≡ false → nat_eq x 73 ≡ false → nat_eq x 82 ≡ false → nat_eq x 83 ≡ false → nat_eq x 85 ≡ false → class t ≡ Other
unfolding begins same_text is_nothing is_built is_begin is_write number_behind class
initial-other [] x e b c d i r s u = refl
initial-other (y ∷ ys) x e b c d i r s u =
    let at : (w : ℕ) → nat_eq x w ≡ false → nat_eq y w ≡ false = λ w h. ap (λ (z : ℕ). nat_eq z w) (sym e) ∙ h in
    other_from y ys (at 66 b) (at 67 c) (at 68 d) (at 73 i) (at 82 r) (at 83 s) (at 85 u)
