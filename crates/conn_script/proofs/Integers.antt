-- Numbers below zero.
use Rattle.std.proofs.Common.{◌≡◌, ◌≢◌, ℕ, zero, suc, ◌<◌, Bool, true, false, Option, Some, None, refl, sym, ap, ◌∙◌, arith}
use Rattle.std.specs.Prelude.{nat_lt, ℤ, pos, negsuc, ◌-ℤ◌, FitsSigned}
use Rattle.std.specs.Int.{w64}
use Rattle.std.specs.Option.{SomeIff}
use Rattle.std.proofs.lemmas.Bool.{ltb-true}
use Rattle.std.proofs.lemmas.Int.{ints}
use Rattle.std.proofs.lemmas.Bool.Decides.{nat_tests}
use Rattle.conn_script.specs.Options.{guard}
use Rattle.conn_script.specs.Values.{below_zero}

is_less : (n m : ℕ) → n < m → nat_lt n m ≡ true
is_less n m h = grind (arith, nat_tests)

less : (n : ℕ) → pos 0 -ℤ pos (suc n) ≡ negsuc n
less n = omega (arith, ints)

-- what is taken from zero, where it fits
pub below_is : (n : ℕ) (r : Option ℤ) → SomeIff r (FitsSigned w64 (pos 0 -ℤ pos n)) (pos 0 -ℤ pos n) → n ≢ 0 → r ≡ below_zero n
below_is zero r is h = absurd (h refl)
below_is (suc n) None unfit h = by_size (nat_lt n 9223372036854775808) refl
  where
    by_size : (b : Bool) → nat_lt n 9223372036854775808 ≡ b → None ≡ guard b (negsuc n)
    by_size true e = absurd (unfit (rw less (record { sfits = ltb-true n 9223372036854775808 e })))
    by_size false e = refl
below_is (suc n) (Some x) (fits, same) h = ap Some (same ∙ less n) ∙ sym (ap (λ (b : Bool). guard b (negsuc n)) (is_less n 9223372036854775808 (rw less at fits).sfits))
