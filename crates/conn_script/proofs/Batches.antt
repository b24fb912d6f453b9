-- The word of a batch, with which a line begins.
use Rattle.std.proofs.Common.{◌≡◌, ◌∙◌, ap, sym, subst, ℕ, true, false, nat_eq, List, drop, codes, Option, Some, None, Bor}
use Rattle.std.specs.List.{starts_with}
use Rattle.std.specs.Option.{MatchOption}
use Rattle.std.specs.Str.{IsCharBoundary}
use Rattle.std.specs.Str.Pattern.{FindsTextPrefix, StripsPrefix}
use Rattle.std.proofs.lemmas.Str.Pattern.{starts_text}
use Rattle.conn_script.specs.Words.{split_at}
use Rattle.conn_script.proofs.Marks.{word_is}

pub strips_batch : (line : List ℕ) (r : Option (Bor (List ℕ))) → MatchOption r (FindsTextPrefix (codes "batch ") line None) (λ rest. StripsPrefix (FindsTextPrefix (codes "batch ")) line rest.now)
    → MatchOption r (starts_with nat_eq line (codes "batch ") ≡ false) (λ rest. split_at 32 line ≡ (codes "batch", Some rest.now))
strips_batch line None h = sym (starts_text false (codes "batch ") line h)
strips_batch line (Some rest) h =
    let size : h.0 ≡ 6 = h.1.0 in
    let begins = sym (starts_text true (codes "batch ") line (h.0, h.1, subst (λ (n : ℕ). IsCharBoundary line n) (sym size) h.1.2)) in
    let behind : rest.now ≡ drop 6 line = subst (λ (n : ℕ). rest.now ≡ drop n line) size h.2 in
    ap (split_at 32) (word_is line (codes "batch ") begins) ∙ ap (λ (r : List ℕ). (codes "batch", Some r)) (sym behind)
