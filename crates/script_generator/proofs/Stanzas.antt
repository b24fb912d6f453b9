-- One stanza more.
use Rattle.std.proofs.Common.{◌≡◌, ℕ, suc, ◌+◌, List, ◌++◌, ap, ◌∙◌, arith, append_assoc}
use Rattle.script_generator.specs.Generator.{next_number, stanza_number, stanza_of, stanza_text, first_stanzas}

one_more : (i : ℕ) → suc i ≡ i + 1
one_more i = omega arith

pub number_more : (seed i x : ℕ) → next_number x ≡ stanza_number seed i → next_number (next_number x) ≡ stanza_number seed (i + 1)
number_more seed i x h = ap next_number h ∙ ap (stanza_number seed) (one_more i)

pub text_more : (seed i x : ℕ) (front old new : List ℕ) → new ≡ old ++ stanza_text (stanza_of (next_number x)) i → old ≡ front ++ first_stanzas seed i → next_number x ≡ stanza_number seed i
    → new ≡ front ++ first_stanzas seed (i + 1)
text_more seed i x front old new pushed before number =
    pushed
    ∙ ap (λ (t : List ℕ). t ++ stanza_text (stanza_of (next_number x)) i) before
    ∙ ap (λ (y : ℕ). front ++ first_stanzas seed i ++ stanza_text (stanza_of y) i) number
    ∙ append_assoc front (first_stanzas seed i) (stanza_text (stanza_of (stanza_number seed i)) i)
    ∙ ap (λ (n : ℕ). front ++ first_stanzas seed n) (one_more i)
