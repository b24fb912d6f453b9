-- The pieces between bytes, by the first of them.
use Rattle.std.proofs.Common.{◌≡◌, ℕ, Bool, true, false, cond, List, [], ◌∷◌, Option, Some, None, refl, sym, ap, ◌∙◌}
use Rattle.std.specs.Prelude.{◌==◌}
use Rattle.conn_script.specs.Words.{pieces, split_at, with_first}

-- what a cut says of the pieces
abbrev pub pieces_from : ℕ → List ℕ × Option (List ℕ) → List (List ℕ)
pieces_from b (piece, None) = piece ∷ []
pieces_from b (piece, Some rest) = piece ∷ pieces b rest

abbrev pub put_first : ℕ → List ℕ × Option (List ℕ) → List ℕ × Option (List ℕ)
put_first c s = (c ∷ s.0, s.1)

pieces_from-put_first : (b c : ℕ) (s : List ℕ × Option (List ℕ)) → pieces_from b (put_first c s) ≡ with_first c (pieces_from b s)
pieces_from-put_first b c (piece, None) = refl
pieces_from-put_first b c (piece, Some rest) = refl

cut_step : (t : Bool) (b c : ℕ) (cs : List ℕ) → pieces b cs ≡ pieces_from b (split_at b cs) → cond t ([] ∷ pieces b cs) (with_first c (pieces b cs)) ≡ pieces_from b (cond t ([], Some cs) (put_first c (split_at b cs)))
cut_step true b c cs h = refl
cut_step false b c cs h = ap (with_first c) h ∙ sym (pieces_from-put_first b c (split_at b cs))

pub pieces_cut : (b : ℕ) (bs : List ℕ) → pieces b bs ≡ pieces_from b (split_at b bs)
pieces_cut b [] = refl
pieces_cut b (c ∷ cs) = cut_step (c == b) b c cs (pieces_cut b cs)
