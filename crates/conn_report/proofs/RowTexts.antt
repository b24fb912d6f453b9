-- Rows as a report writes them, with one value or one row more.
use Rattle.std.proofs.Common.{◌≡◌, ℕ, zero, suc, ◌+◌, Bool, true, false, cond, List, [], ◌∷◌, ◌++◌, take, map, Some, refl, sym, ap, ◌∙◌, arith, append_assoc, eqb-true}
use Rattle.std.specs.Prelude.{◌==◌, codes}
use Rattle.std.specs.List.{flat_map, join_with_byte, slice_get}
use Rattle.conn_model.specs.declared.value.Value.{Value}
use Rattle.conn_report.specs.Report.{row_text, rows_text, value_text}
use Rattle.conn_report.proofs.Parts.{take_one}

-- a piece behind others, with a comma in front where there are others
abbrev pub next_piece : ℕ → List ℕ → List ℕ
next_piece n piece = cond (n == 0) piece (codes "," ++ piece)

join_next : (x : List ℕ) (xs : List (List ℕ)) (y : List ℕ) → join_with_byte 44 (x ∷ xs ++ y ∷ []) ≡ join_with_byte 44 (x ∷ xs) ++ 44 ∷ y
join_next x [] y = refl
join_next x (z ∷ zs) y = ap (λ (t : List ℕ). x ++ 44 ∷ t) (join_next z zs y) ∙ sym (append_assoc x (44 ∷ join_with_byte 44 (z ∷ zs)) (44 ∷ y))

-- behind the first one there is a comma
not_first : (n : ℕ) (b : Bool) → (suc n == 0) ≡ b → b ≡ false
not_first n true e = let z : suc n ≡ 0 = eqb-true (suc n) 0 e in absurd (omega (arith, z))
not_first n false e = refl

next_piece-suc : (n : ℕ) (piece : List ℕ) → 44 ∷ piece ≡ next_piece (suc n) piece
next_piece-suc n piece = sym (ap (λ (b : Bool). cond b piece (44 ∷ piece)) (not_first n (suc n == 0) refl))

-- the values up to the next column
column_more : (row : List Value) (n : ℕ) (value : Value) → slice_get row n ≡ Some value → join_with_byte 44 (map value_text (take (n + 1) row)) ≡ join_with_byte 44 (map value_text (take n row)) ++ next_piece n (value_text value)
column_more [] n value h = absurd (cc)
column_more (v ∷ row) zero value h = let e : v ≡ value = cc in ap value_text e
column_more (v ∷ row) (suc n) value h =
    let vs = take n row in
    let more : map value_text (take (suc n + 1) (v ∷ row)) ≡ value_text v ∷ map value_text vs ++ value_text value ∷ [] =
    ap (λ (ws : List Value). map value_text ws) (take_one (v ∷ row) (suc n) value h) ∙ ap (λ (ts : List (List ℕ)). value_text v ∷ ts) (mapped vs) in
    ap (λ (ts : List (List ℕ)). join_with_byte 44 ts) more ∙ join_next (value_text v) (map value_text vs) (value_text value)
    ∙ ap (λ (t : List ℕ). join_with_byte 44 (value_text v ∷ map value_text vs) ++ t) (next_piece-suc n (value_text value))
  where
    mapped : (vs : List Value) → map value_text (vs ++ value ∷ []) ≡ map value_text vs ++ value_text value ∷ []
    mapped [] = refl
    mapped (w ∷ ws) = ap (λ (ts : List (List ℕ)). value_text w ∷ ts) (mapped ws)

pub column_written : (start before after : List ℕ) (row : List Value) (n : ℕ) (value : Value) → slice_get row n ≡ Some value → before ≡ start ++ join_with_byte 44 (map value_text (take n row))
    → after ≡ before ++ next_piece n (value_text value) → after ≡ start ++ join_with_byte 44 (map value_text (take (n + 1) row))
column_written start before after row n value there so_far e =
    e ∙ ap (λ (t : List ℕ). t ++ next_piece n (value_text value)) so_far
    ∙ append_assoc start (join_with_byte 44 (map value_text (take n row))) (next_piece n (value_text value))
    ∙ ap (λ (t : List ℕ). start ++ t) (sym (column_more row n value there))

-- where there are rows
pub rows_there : (rows : List (List Value)) → (rows ≡ [] → ⊥) → rows_text rows ≡ codes "rows " ++ flat_map row_text rows
rows_there [] some = absurd (some refl)
rows_there (row ∷ rows) some = refl
