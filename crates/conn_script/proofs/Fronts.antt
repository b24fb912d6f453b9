-- The lines of bytes whose front alone is a text.
use Rattle.std.proofs.Common.{rules, ◌≡◌, ℕ, ◌<◌, ◌≤◌, Bool, true, false, cond, List, [], ◌∷◌, ◌++◌, length, take, drop, Option, Some, None, Err, inl, inr, refl, sym, ap, subst, ◌∙◌, arith, length-append, length-drop}
use Rattle.std.proofs.lemmas.Grind.{common_steps}
use Rattle.std.proofs.lemmas.List.{take-append-drop, append-nil, drop_all}
use Rattle.std.proofs.Math.Seq.{take-append_seam}
use Rattle.std.specs.Prelude.{◌==◌, nat_lt}
use Rattle.std.specs.Str.{IsUtf8, IsValidUpTo}
use Rattle.std.proofs.lemmas.Bool.{ltb-true}
use Rattle.std.proofs.lemmas.Bool.Decides.{Decides-eqb, nat_tests}
use Rattle.std.proofs.lemmas.Str.{IsUtf8-append, IsUtf8-from_ascii}
use Rattle.conn_script.specs.Words.{split_at}
use Rattle.conn_script.specs.Fronts.{IsFront}
use Rattle.conn_script.specs.Grammar.{lines_of, judged, judged_last}
use Rattle.conn_script.specs.Drafts.{Draft}
use Rattle.conn_script.proofs.Pieces.{put_first}
use Rattle.conn_script.proofs.Lines.{left_last, left_bad, next_not_text}

-- a cut of more bytes
abbrev pub extended : ℕ → List ℕ → List ℕ × Option (List ℕ) → List ℕ × Option (List ℕ)
extended b tail (line, None) = (line ++ (split_at b tail).0, (split_at b tail).1)
extended b tail (line, Some rest) = (line, Some (rest ++ tail))

extend_step : (t : Bool) (b c : ℕ) (cs tail : List ℕ) (s more : List ℕ × Option (List ℕ)) → more ≡ extended b tail s
    → cond t ([], Some (cs ++ tail)) (put_first c more) ≡ extended b tail (cond t ([], Some cs) (put_first c s))
extend_step true b c cs tail s more e = refl
extend_step false b c cs tail (line, None) more e = ap (put_first c) e
extend_step false b c cs tail (line, Some rest) more e = ap (put_first c) e

split_extended : (b : ℕ) (xs tail : List ℕ) → split_at b (xs ++ tail) ≡ extended b tail (split_at b xs)
split_extended b [] tail = refl
split_extended b (c ∷ cs) tail = extend_step (c == b) b c cs tail (split_at b cs) (split_at b (cs ++ tail)) (split_extended b cs tail)

pub found_in_more : (b : ℕ) (xs tail line rest : List ℕ) → (line, Some rest) ≡ split_at b xs → (line, Some (rest ++ tail)) ≡ split_at b (xs ++ tail)
found_in_more b xs tail line rest e = sym (split_extended b xs tail ∙ ap (extended b tail) (sym e))

none_some : (xs : List ℕ) → ◌≡◌ {A = Option (List ℕ)} None (Some xs) → ⊥
none_some xs e = absurd (cc)

whole_step : (t : Bool) (c : ℕ) (cs line : List ℕ) (s : List ℕ × Option (List ℕ)) → ((l : List ℕ) → (l, None) ≡ s → l ≡ cs) → (line, None) ≡ cond t ([], Some cs) (put_first c s) → line ≡ c ∷ cs
whole_step true c cs line s h e = absurd (none_some cs (ap (λ (p : List ℕ × Option (List ℕ)). p.1) e))
whole_step false c cs line (l, None) h e = ap (λ (p : List ℕ × Option (List ℕ)). p.0) e ∙ ap (λ (t : List ℕ). c ∷ t) (h l refl)
whole_step false c cs line (l, Some r) h e = absurd (none_some r (ap (λ (p : List ℕ × Option (List ℕ)). p.1) e))

-- where the byte is not, all is before it
pub whole : (b : ℕ) (xs line : List ℕ) → (line, None) ≡ split_at b xs → line ≡ xs
whole b [] line e = ap (λ (p : List ℕ × Option (List ℕ)). p.0) e
whole b (c ∷ cs) line e = whole_step (c == b) c cs line (split_at b cs) (λ l h. whole b cs l h) e

joined_step : (t : Bool) (b c : ℕ) (cs line rest : List ℕ) (s : List ℕ × Option (List ℕ)) → (c == b) ≡ t → ((l r : List ℕ) → (l, Some r) ≡ s → cs ≡ l ++ b ∷ r)
    → (line, Some rest) ≡ cond t ([], Some cs) (put_first c s) → c ∷ cs ≡ line ++ b ∷ rest
joined_step true b c cs line rest s is h e = let same : c ≡ b = (Decides-eqb c b).0 is in grind arith
joined_step false b c cs line rest (l, None) is h e = absurd (none_some rest (sym (ap (λ (p : List ℕ × Option (List ℕ)). p.1) e)))
joined_step false b c cs line rest (l, Some r) is h e = let there : cs ≡ l ++ b ∷ r = h l r refl in grind arith

-- where the byte is, it stands between the two parts
pub joined : (b : ℕ) (xs line rest : List ℕ) → (line, Some rest) ≡ split_at b xs → xs ≡ line ++ b ∷ rest
joined b [] line rest e = absurd (none_some rest (sym (ap (λ (p : List ℕ × Option (List ℕ)). p.1) e)))
joined b (c ∷ cs) line rest e = joined_step (c == b) b c cs line rest (split_at b cs) refl (λ l r h. joined b cs l r h) e

last_more : (n : ℕ) (s : Option Draft) (xs : List ℕ) → 0 < length xs → judged_last n s xs ≡ Err n
last_more n None xs h = refl
last_more n (Some s) [] h = absurd (omega arith)
last_more n (Some s) (x ∷ xs) h = refl

-- the line in which the text ends is no text
ends_in : (bytes done rest x y : List ℕ) → IsUtf8 done → bytes ≡ done ++ rest ++ (x ++ 10 ∷ y) → IsValidUpTo bytes (length (done ++ rest)) → ¬ (IsUtf8 (rest ++ x))
ends_in bytes done rest x y before parts valid text =
    let front = done ++ ((rest ++ x) ++ 10 ∷ []) in
    let feed : IsUtf8 (10 ∷ []) = IsUtf8-from_ascii (10 ∷ []) (search rules) in
    let utf8 : IsUtf8 front = IsUtf8-append done ((rest ++ x) ++ 10 ∷ []) before (IsUtf8-append (rest ++ x) (10 ∷ []) text feed) in
    let all : bytes ≡ front ++ y = grind (arith, common_steps, parts) in
    let taken : take (length front) bytes ≡ front = ap (take (length front)) all ∙ take-append_seam front y in
    let longer : length (done ++ rest) < length front = grind (arith, common_steps) in
    valid.longest (length front) longer (subst IsUtf8 (sym taken) utf8)

bad_part : (n : ℕ) (s : Option Draft) (bytes done rest tail x : List ℕ) (m : Option (List ℕ)) → IsUtf8 done → bytes ≡ done ++ rest ++ tail → IsValidUpTo bytes (length (done ++ rest)) → 0 < length tail
    → (x, m) ≡ split_at 10 tail → (rest ++ x, m) ≡ split_at 10 (rest ++ tail) → judged n s (lines_of (rest ++ tail)) ≡ Err n
bad_part n s bytes done rest tail x None before parts valid more e cut =
    let same : x ≡ tail = whole 10 tail x e in
    let long : 0 < length (rest ++ x) = omega (arith, length-append rest x, ap length same, more) in
    left_last n s (rest ++ tail) (rest ++ x) cut ∙ last_more n s (rest ++ x) long
bad_part n s bytes done rest tail x (Some y) before parts valid more e cut =
    let all : bytes ≡ done ++ rest ++ (x ++ 10 ∷ y) = parts ∙ ap (λ (t : List ℕ). done ++ rest ++ t) (joined 10 tail x y e) in
    left_bad n s (rest ++ tail) (rest ++ x) y cut (sym (next_not_text n s (rest ++ x) (ends_in bytes done rest x y before all valid)))

-- the text ends before the bytes do, and with no line feed behind what was read: this line is bad
pub bad_end : (n : ℕ) (s : Option Draft) (bytes done rest tail line : List ℕ) → IsUtf8 done → bytes ≡ done ++ rest ++ tail → IsValidUpTo bytes (length (done ++ rest)) → 0 < length tail
    → (line, None) ≡ split_at 10 rest → judged n s (lines_of (rest ++ tail)) ≡ Err n
bad_end n s bytes done rest tail line before parts valid more e =
    let cut : (line ++ (split_at 10 tail).0, (split_at 10 tail).1) ≡ split_at 10 (rest ++ tail) = sym (split_extended 10 rest tail ∙ ap (extended 10 tail) (sym e)) in
    let same : line ≡ rest = whole 10 rest line e in
    bad_part n s bytes done rest tail (split_at 10 tail).0 (split_at 10 tail).1 before parts valid more refl (subst (λ (l : List ℕ). (l ++ (split_at 10 tail).0, (split_at 10 tail).1) ≡ split_at 10 (rest ++ tail)) same cut)

-- what is behind the front
pub front_whole : (bytes text : List ℕ) → IsFront bytes text → text ++ drop (length text) bytes ≡ bytes
front_whole bytes text (inl e) = let none : drop (length text) bytes ≡ [] = drop_all (length text) bytes (omega (arith, ap length e)) in ap (λ (t : List ℕ). text ++ t) none ∙ append-nil text ∙ e
front_whole bytes text (inr (e, valid)) = ap (λ (t : List ℕ). t ++ drop (length text) bytes) e ∙ take-append-drop (length text) bytes

pub front_short : (bytes text : List ℕ) → IsFront bytes text → length text ≤ length bytes
front_short bytes text (inl e) = omega (arith, ap length e)
front_short bytes text (inr (e, valid)) = omega (arith, valid.short)

pub front_all : (bytes text : List ℕ) → IsFront bytes text → length bytes ≤ length text → text ≡ bytes
front_all bytes text (inl e) h = e
front_all bytes text (inr (e, valid)) h = absurd (omega (arith, valid.short))

-- the text ends before the bytes do: the line in which it ends is bad
pub front_bad : (n : ℕ) (s : Option Draft) (bytes text done rest line : List ℕ) → IsFront bytes text → length text < length bytes → IsUtf8 done → text ≡ done ++ rest → (line, None) ≡ split_at 10 rest
    → judged n s (lines_of (rest ++ drop (length text) bytes)) ≡ Err n
front_bad n s bytes text done rest line (inl e) short before parts cut = absurd (omega (arith, ap length e))
front_bad n s bytes text done rest line (inr (e, valid)) short before parts cut =
    let more : 0 < length (drop (length text) bytes) = omega (arith, length-drop (length text) bytes) in
    let all : bytes ≡ done ++ rest ++ drop (length text) bytes = sym (front_whole bytes text (inr (e, valid))) ∙ ap (λ (t : List ℕ). t ++ drop (length text) bytes) parts in
    bad_end n s bytes done rest (drop (length text) bytes) line before all (subst (λ (t : List ℕ). IsValidUpTo bytes (length t)) parts valid) more cut

-- what was read, with one line more
pub read_more : (text done rest line after : List ℕ) → IsUtf8 done → IsUtf8 line → text ≡ done ++ rest → (line, Some after) ≡ split_at 10 rest → (more : List ℕ) × IsUtf8 more × (text ≡ more ++ after)
read_more text done rest line after before utf8 parts cut =
    let feed : IsUtf8 (10 ∷ []) = IsUtf8-from_ascii (10 ∷ []) (search rules) in
    let there : rest ≡ line ++ 10 ∷ after = joined 10 rest line after cut in
    (done ++ (line ++ 10 ∷ []), IsUtf8-append done (line ++ 10 ∷ []) before (IsUtf8-append line (10 ∷ []) utf8 feed), grind (arith, common_steps, parts, there))

pub nothing_behind : (rest bytes text : List ℕ) → text ≡ bytes → rest ++ drop (length text) bytes ≡ rest
nothing_behind rest bytes text e = let none : drop (length text) bytes ≡ [] = drop_all (length text) bytes (omega (arith, ap length e)) in ap (λ (t : List ℕ). rest ++ t) none ∙ append-nil rest

-- bytes with no line feed in the text that they begin with: the first line is bad
pub first_ends : (bytes text line : List ℕ) → IsFront bytes text → (line, None) ≡ split_at 10 text → judged 1 None (lines_of bytes) ≡ Err 1
first_ends bytes text line front cut = by_length (nat_lt (length text) (length bytes)) refl
  where
    by_length : (b : Bool) → nat_lt (length text) (length bytes) ≡ b → judged 1 None (lines_of bytes) ≡ Err 1
    by_length true e =
        ap (λ (t : List ℕ). judged 1 None (lines_of t)) (sym (front_whole bytes text front))
        ∙ front_bad 1 None bytes text [] text line front (ltb-true (length text) (length bytes) e) (IsUtf8-from_ascii [] (search rules)) refl cut
    by_length false e =
        let all : text ≡ bytes = front_all bytes text front (grind (arith, nat_tests)) in
        left_last 1 None bytes line (subst (λ (t : List ℕ). (line, None) ≡ split_at 10 t) all cut)
