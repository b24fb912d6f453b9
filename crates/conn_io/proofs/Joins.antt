-- One write after another, and one read after another.
use Rattle.std.proofs.Common.{◌≡◌, ℕ, ◌+◌, List, ◌++◌, length, take, drop, Option, Some, None, sym, ap, ◌∙◌, append_assoc}
use Rattle.std.proofs.Math.Seq.{take-add}
use Rattle.std.proofs.lemmas.List.{take-append-drop, take_at, drop-drop}
use Rattle.std.specs.Io.KnownBytes.{Appends}

pub appends_more : (a b c : Option (List ℕ)) (n at : ℕ) (bytes piece : List ℕ) → Appends a b (take at bytes) → Appends b c (take n piece) → piece ≡ drop at bytes → Appends a c (take (at + n) bytes)
appends_more None b c n at bytes piece p q e = tt
appends_more (Some held) None c n at bytes piece p q e = absurd p
appends_more (Some held) (Some more) None n at bytes piece p q e = absurd q
appends_more (Some held) (Some more) (Some all) n at bytes piece p q e =
    q ∙ ap (λ (t : List ℕ). t ++ take n piece) p ∙ append_assoc held (take at bytes) (take n piece) ∙ ap (λ (t : List ℕ). held ++ t) (ap (λ (r : List ℕ). take at bytes ++ take n r) e ∙ sym (take-add at n bytes))

-- what a read of n bytes leaves of a list
pub read_from : (n at : ℕ) (bytes new rest : List ℕ) → new ≡ take n (drop at bytes) → length new ≡ n → drop at bytes ≡ take n (new ++ rest) ++ drop (at + n) bytes
read_from n at bytes new rest e l =
    sym (ap (λ (t : List ℕ). t ++ drop (at + n) bytes) (take_at new rest n l ∙ e) ∙ ap (λ (t : List ℕ). take n (drop at bytes) ++ t) (sym (drop-drop n at bytes)) ∙ take-append-drop n (drop at bytes))
