-- Texts in which no NUL stands, and the place of the NUL that stops one.
use Rattle.std.proofs.Common.{◌≡◌, sym, ℕ, zero, suc, ◌+◌, ◌^◌, ◌<◌, ◌&&◌, ◌||◌, true, false, cond, nat_eq, List, [], ◌∷◌, ◌++◌, decimal, refl, Option, Some, None, arith}
use Rattle.std.proofs.lemmas.Bool.Decides.{nat_tests}
use Rattle.std.proofs.lemmas.Fmt.{digits_decimal}
use Rattle.std.specs.List.{position_from, list_any}
use Rattle.std.specs.Char.{is_ascii_digit}
use Rattle.std.specs.Str.{all_ascii_digits}
use Rattle.conn_model.specs.Nuls.{nul_place, nul_fault, fault_at}
use Rattle.conn_model.specs.declared.item.Dialect.{Dialect}
use Rattle.conn_model.specs.declared.item.Dialect.TheVariants.{Pg, Mysql, Sqlite}
use Rattle.conn_model.proofs.Parses.{own}

appended : (i : ℕ) (xs ys : List ℕ) → position_from (λ (b : ℕ). nat_eq b 0) i xs ≡ None → ((j : ℕ) → position_from (λ (b : ℕ). nat_eq b 0) j ys ≡ None) → position_from (λ (b : ℕ). nat_eq b 0) i (xs ++ ys) ≡ None
appended i [] ys none others = others i
appended i (x ∷ xs) ys none others =
    elim (nat_eq x 0) as (λ b. cond b (Some i) (position_from (λ (b : ℕ). nat_eq b 0) (i + 1) xs) ≡ None → cond b (Some i) (position_from (λ (b : ℕ). nat_eq b 0) (i + 1) (xs ++ ys)) ≡ None) [
      | true ↦ (λ e. absurd (cc))
      | false ↦ (λ e. appended (i + 1) xs ys e others)
    ] none

digits_hold_none : (ds : List ℕ) → all_ascii_digits ds ≡ true → (i : ℕ) → position_from (λ (b : ℕ). nat_eq b 0) i ds ≡ None
digits_hold_none [] digits i = refl
digits_hold_none (zero ∷ ds) digits i = absurd (cc)
digits_hold_none (suc c ∷ ds) digits i =
    let n : nat_eq (suc c) 0 ≡ false = grind (arith, nat_tests) in
    elim (is_ascii_digit (suc c)) as (λ b. (b && all_ascii_digits ds) ≡ true → cond (nat_eq (suc c) 0) (Some i) (position_from (λ (b : ℕ). nat_eq b 0) (i + 1) ds) ≡ None) [
      | true ↦ (λ e. rw n (digits_hold_none ds e (i + 1)))
      | false ↦ (λ e. absurd (cc))
    ] digits

-- words and a number
pub numbered_holds_none : (words : List ℕ) (n : ℕ) → n < 2 ^ 64 → nul_place words ≡ None → nul_place (words ++ decimal n) ≡ None
numbered_holds_none words n h none = appended 0 words (decimal n) none (digits_hold_none (decimal n) (digits_decimal own n h))

-- the NUL that stops a text is its first
fault_first : (d : Dialect) (place : Option ℕ) (n : ℕ) → fault_at d place ≡ Some n → place ≡ Some n
fault_first Pg None n e = e
fault_first Mysql None n e = e
fault_first Sqlite None n e = e
fault_first Pg (Some place) n e = e
fault_first Mysql (Some place) n e = absurd (cc)
fault_first Sqlite (Some place) n e = e

pub fault_place : (d : Dialect) (text : List ℕ) (n : ℕ) → nul_fault d text ≡ Some n → nul_place text ≡ Some n
fault_place d text n e = fault_first d (nul_place text) n e

none_from : (i : ℕ) (bs : List ℕ) → list_any (λ (b : ℕ). nat_eq b 0) bs ≡ false → position_from (λ (b : ℕ). nat_eq b 0) i bs ≡ None
none_from i [] none = refl
none_from i (b ∷ bs) none =
    elim (nat_eq b 0) as (λ t. (t || list_any (λ (c : ℕ). nat_eq c 0) bs) ≡ false → cond t (Some i) (position_from (λ (c : ℕ). nat_eq c 0) (i + 1) bs) ≡ None) [
      | true ↦ (λ e. absurd (cc))
      | false ↦ (λ e. none_from (i + 1) bs e)
    ] none

-- a text in which no byte is NUL
pub no_place : (text : List ℕ) → list_any (λ (b : ℕ). nat_eq b 0) text ≡ false → None ≡ nul_place text
no_place text none = sym (none_from 0 text none)
