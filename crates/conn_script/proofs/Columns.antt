-- The columns of a shape, one by one.
use Rattle.std.proofs.Common.{◌≡◌, ◌≢◌, ℕ, zero, suc, ◌-◌, Bool, List, [], ◌∷◌, ◌++◌, Option, Some, None, refl, sym, ap, ◌∙◌, arith}
use Rattle.std.proofs.lemmas.List.{append-nil}
use Rattle.conn_script.specs.Options.{◌>>=◌}
use Rattle.conn_script.specs.Shapes.{shape_columns, kind_lettered, null_mark}
use Rattle.conn_script.specs.declared.shape.ShapeKind.{ShapeKind}
use Rattle.conn_script.proofs.Reading.{behind, behind_one}

-- there is none
pub columns_end : (done : List (ShapeKind × Bool)) (left : ℕ) → Some done ≡ behind done (shape_columns left [])
columns_end done zero = ap Some (sym (append-nil done))
columns_end done (suc n) = ap Some (sym (append-nil done))

-- no letter stands here
pub columns_bad : (done : List (ShapeKind × Bool)) (left b : ℕ) (bs : List ℕ) → None ≡ kind_lettered b → None ≡ behind done (shape_columns left (b ∷ bs))
columns_bad done zero b bs is = refl
columns_bad done (suc n) b bs is = ap (λ (o : Option ShapeKind). behind done (o >>= λ kind. shape_columns n (null_mark bs).1 >>= λ more. Some ((kind, (null_mark bs).0) ∷ more))) is

-- one more is read
pub columns_more : (done : List (ShapeKind × Bool)) (left b : ℕ) (bs : List ℕ) (kind : ShapeKind) → left ≢ 0 → Some kind ≡ kind_lettered b
    → behind (done ++ (kind, (null_mark bs).0) ∷ []) (shape_columns (left - 1) (null_mark bs).1) ≡ behind done (shape_columns left (b ∷ bs))
columns_more done zero b bs kind h is = absurd (h refl)
columns_more done (suc n) b bs kind h is =
    let same : suc n - 1 ≡ n = omega arith in
    ap (λ (m : ℕ). behind (done ++ (kind, (null_mark bs).0) ∷ []) (shape_columns m (null_mark bs).1)) same
    ∙ sym (behind_one done (kind, (null_mark bs).0) (shape_columns n (null_mark bs).1))
    ∙ ap (λ (o : Option ShapeKind). behind done (o >>= λ k. shape_columns n (null_mark bs).1 >>= λ more. Some ((k, (null_mark bs).0) ∷ more))) is
