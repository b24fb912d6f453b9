-- A part more leaves the texts as they were.
use Rattle.std.proofs.Common.{◌≡◌, ℕ, zero, suc, ◌+◌, ◌≤◌, true, List, [], ◌∷◌, ◌++◌, length, take, drop, Some, ap, subst, ◌∙◌, arith, length-drop, length-append}
use Rattle.std.proofs.lemmas.List.{take-append-le, drop-append-le}
use Rattle.std.proofs.Math.Seq.{take-length, drop-append_seam}
use Rattle.std.specs.List.{AllByRecursion, slice_get, flat_map}
use Rattle.std.specs.Str.{is_utf8}
use Rattle.std.proofs.lemmas.Grind.{common_steps, flat_map-append}
use Rattle.conn_report.specs.Report.{write_line}
use Rattle.conn_report.specs.declared.texts.Part.{Part}
use Rattle.conn_report.specs.Parts.{part_text, part_texts, IsTextPart}

text_stays : (xs ys : List ℕ) (p : Part) → IsTextPart xs p → part_text (xs ++ ys) p ≡ part_text xs p
text_stays xs ys p h =
    let start : p.start ≤ length xs = omega (arith, h.within) in
    let rest : p.len ≤ length (drop p.start xs) = omega (arith, h.within, length-drop p.start xs) in
    rw (drop-append-le p.start xs ys start) (take-append-le p.len (drop p.start xs) ys rest)

text_new : (xs ys : List ℕ) → part_text (xs ++ ys) (record { start = length xs; len = length ys }) ≡ ys
text_new xs ys = rw (drop-append_seam xs ys) (take-length ys)

pub part_texts-push : (ps : List Part) (xs ys : List ℕ) → AllByRecursion (IsTextPart xs) ps
    → part_texts (ps ++ record { start = length xs; len = length ys } ∷ []) (xs ++ ys) ≡ part_texts ps xs ++ ys ∷ []
part_texts-push [] xs ys within = ap (λ (t : List ℕ). t ∷ []) (text_new xs ys)
part_texts-push (p ∷ ps) xs ys within = ap (λ (t : List ℕ). t ∷ part_texts (ps ++ record { start = length xs; len = length ys } ∷ []) (xs ++ ys)) (text_stays xs ys p within.0)
    ∙ ap (λ (ts : List (List ℕ)). part_text xs p ∷ ts) (part_texts-push ps xs ys within.1)

pub all-push : (ps : List Part) (xs ys : List ℕ) → is_utf8 ys ≡ true → AllByRecursion (IsTextPart xs) ps
    → AllByRecursion (IsTextPart (xs ++ ys)) (ps ++ record { start = length xs; len = length ys } ∷ [])
all-push [] xs ys text within = (record { within = omega (arith, length-append xs ys); utf8 = ap is_utf8 (text_new xs ys) ∙ text }, tt)
all-push (p ∷ ps) xs ys text within =
    (record { within = omega (arith, within.0.within, length-append xs ys); utf8 = ap is_utf8 (text_stays xs ys p within.0) ∙ within.0.utf8 }, all-push ps xs ys text within.1)

pub text-at : (b : List ℕ) (ps : List Part) (n : ℕ) (p : Part) → AllByRecursion (IsTextPart b) ps → slice_get ps n ≡ Some p → IsTextPart b p
text-at b [] n p all h = absurd (cc)
text-at b (x ∷ ps) zero p all h = let e : x ≡ p = cc in subst (IsTextPart b) e all.0
text-at b (x ∷ ps) (suc n) p all h = text-at b ps n p all.1 h

pub text-got : (b : List ℕ) (ps : List Part) (n : ℕ) (p : Part) → slice_get ps n ≡ Some p → slice_get (part_texts ps b) n ≡ Some (part_text b p)
text-got b [] n p h = absurd (cc)
text-got b (x ∷ ps) zero p h = let e : x ≡ p = cc in ap (λ (q : Part). Some (part_text b q)) e
text-got b (x ∷ ps) (suc n) p h = text-got b ps n p h

-- a list up to the next place
pub take_one : {X : Type 0} (xs : List X) (n : ℕ) (x : X) → slice_get xs n ≡ Some x → take (n + 1) xs ≡ take n xs ++ x ∷ []
take_one [] n x h = absurd (cc)
take_one (y ∷ xs) zero x h = let e : y ≡ x = cc in ap (λ (q : _). q ∷ []) e
take_one (y ∷ xs) (suc n) x h =
    let next : suc n + 1 ≡ suc (n + 1) = omega arith in
    ap (λ (m : ℕ). take m (y ∷ xs)) next ∙ ap (λ (qs : _). y ∷ qs) (take_one xs n x h)

-- one line more is written
pub one_written : (start before after : List ℕ) (texts : List (List ℕ)) (n : ℕ) (text : List ℕ) → slice_get texts n ≡ Some text → before ≡ start ++ flat_map write_line (take n texts) → after ≡ before ++ write_line text
    → after ≡ start ++ flat_map write_line (take (n + 1) texts)
one_written start before after texts n text there so_far e =
    let next = take_one texts n text there in
    let lines = flat_map-append write_line (take n texts) (text ∷ []) in
    rw (next, lines) (grind (arith, common_steps, so_far, e))
