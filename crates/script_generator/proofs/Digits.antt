-- The digits of a number in a line: no line ends and no mark begins in them.
use Rattle.std.proofs.Common.{◌≡◌, ℕ, ◌^◌, ◌<◌, Bool, true, false, cond, List, [], ◌∷◌, ◌++◌, Option, Some, refl, ap, ◌∙◌, arith}
use Rattle.std.specs.Prelude.{◌==◌, ◌&&◌, ◌||◌, nat_eq, decimal}
use Rattle.std.specs.Char.{is_ascii_digit}
use Rattle.std.specs.Str.{all_ascii_digits}
use Rattle.std.proofs.lemmas.Bool.Decides.{nat_tests}
use Rattle.std.proofs.lemmas.Fmt.{digits_decimal}
use Rattle.conn_model.proofs.Parses.{own}
use Rattle.conn_script.specs.Words.{begins_mark, has_mark, split_at}

both_hold : (a b : Bool) → (a && b) ≡ true → (a ≡ true) × (b ≡ true)
both_hold true b e = (refl, e)
both_hold false b e = absurd (cc)

neither_holds : (a b : Bool) → a ≡ false → b ≡ false → (a || b) ≡ false
neither_holds a b e f = ap (λ (t : Bool). t || b) e ∙ f

is_no_line_feed : (c : ℕ) → is_ascii_digit c ≡ true → (c == 10) ≡ false
is_no_line_feed c h = grind (arith, nat_tests)

digits_end : (ds more rest : List ℕ) → all_ascii_digits ds ≡ true → split_at 10 ((ds ++ 10 ∷ more) ++ rest) ≡ (ds, Some (more ++ rest))
digits_end [] more rest h = refl
digits_end (c ∷ cs) more rest h =
    let digit = both_hold (is_ascii_digit c) (all_ascii_digits cs) h in
    let behind : List ℕ = (cs ++ 10 ∷ more) ++ rest in
    let s : List ℕ × Option (List ℕ) = split_at 10 behind in
    ap (λ (t : Bool). cond t ([], Some behind) (c ∷ s.0, s.1)) (is_no_line_feed c digit.0)
    ∙ ap (λ (p : List ℕ × Option (List ℕ)). (c ∷ p.0, p.1)) (digits_end cs more rest digit.1)

-- a line ends behind its last number
pub number_ends : (n : ℕ) (more rest : List ℕ) → n < 2 ^ 64 → split_at 10 ((decimal n ++ 10 ∷ more) ++ rest) ≡ (decimal n, Some (more ++ rest))
number_ends n more rest h = digits_end (decimal n) more rest (digits_decimal own n h)

none_of_four : (a b c d p q r s : Bool) → a ≡ false → b ≡ false → c ≡ false → d ≡ false → (a && p || b && q || c && r || d && s) ≡ false
none_of_four a b c d p q r s ha hb hc hd = grind arith

begins_none : (c : ℕ) (cs : List ℕ) → is_ascii_digit c ≡ true → begins_mark (c ∷ cs) ≡ false
begins_none c cs h =
    let semicolon : nat_eq 59 c ≡ false = grind (arith, nat_tests) in
    let number_sign : nat_eq 35 c ≡ false = grind (arith, nat_tests) in
    let dash : nat_eq 45 c ≡ false = grind (arith, nat_tests) in
    let slash : nat_eq 47 c ≡ false = grind (arith, nat_tests) in
    none_of_four (nat_eq 59 c) (nat_eq 35 c) (nat_eq 45 c) (nat_eq 47 c) _ _ _ _ semicolon number_sign dash slash

digits_unmarked : (ds : List ℕ) → all_ascii_digits ds ≡ true → has_mark ds ≡ false
digits_unmarked [] h = refl
digits_unmarked (c ∷ cs) h =
    let digit = both_hold (is_ascii_digit c) (all_ascii_digits cs) h in
    neither_holds (begins_mark (c ∷ cs)) (has_mark cs) (begins_none c cs digit.0) (digits_unmarked cs digit.1)

pub number_unmarked : (n : ℕ) → n < 2 ^ 64 → has_mark (decimal n) ≡ false
number_unmarked n h = digits_unmarked (decimal n) (digits_decimal own n h)
