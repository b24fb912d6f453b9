-- The lines that close the open blocks.
use Rattle.std.proofs.Common.{◌≡◌, ℕ, zero, suc, ◌+◌, ◌-◌, ◌<◌, Bool, true, List, [], ◌∷◌, ◌++◌, length, Option, Some, refl, ap, ◌∙◌, arith, length-append}
use Rattle.std.specs.Prelude.{◌&&◌, nat_le, nat_lt, codes, decimal}
use Rattle.std.specs.Option.{option_map}
use Rattle.std.specs.Str.{IsUtf8}
use Rattle.std.proofs.lemmas.Bool.Decides.{nat_tests}
use Rattle.std.proofs.lemmas.Fmt.{IsAscii-decimal}
use Rattle.std.proofs.lemmas.Str.{IsUtf8-from_ascii}
use Rattle.std.proofs.lemmas.Str.Ascii.{IsAscii-cons}
use Rattle.conn_model.proofs.Names.{number-decimal}
use Rattle.conn_script.specs.Continues.{after}
use Rattle.conn_script.specs.Drafts.{Draft, can_close, command_added, if_closable, may_come, with_command}
use Rattle.conn_script.specs.Grammar.{next, with_text}
use Rattle.conn_script.specs.Openings.{may_stand}
use Rattle.conn_script.specs.Options.{◌>>=◌, guard}
use Rattle.conn_script.specs.Requests.{request_of}
use Rattle.conn_script.specs.declared.command.Act.TheVariants.{End}
use Rattle.conn_script.proofs.Lines.{next_reads}

-- the line that closes a block on this connection
abbrev pub end_line : ℕ → List ℕ
end_line c = codes "end" ++ 32 ∷ decimal c

abbrev pub end_lines : ℕ → ℕ → List (List ℕ)
end_lines zero c = []
end_lines (suc k) c = end_line c ∷ end_lines k c

end_text : (c : ℕ) → c < 4294967296 → IsUtf8 (end_line c)
end_text c h =
    let rest = IsAscii-cons 32 (decimal c) (omega arith) (IsAscii-decimal c (omega arith)) in
    let two = IsAscii-cons 110 (100 ∷ 32 ∷ decimal c) (omega arith) (IsAscii-cons 100 (32 ∷ decimal c) (omega arith) rest) in
    IsUtf8-from_ascii (end_line c) (IsAscii-cons 101 (110 ∷ 100 ∷ 32 ∷ decimal c) (omega arith) two)

end_reads : (n : ℕ) (d : Draft) (c : ℕ) → c < 4294967296 → with_text n d (end_line c) ≡ (with_command n d (End c) >>= if_closable)
end_reads n d c h = ap (λ (o : Option ℕ). option_map End o >>= with_command n d >>= if_closable) (number-decimal c 4294967296 h (omega arith))

holds : {A : Type 0} (b : Bool) (x : A) → b ≡ true → guard b x ≡ Some x
holds b x e = ap (λ (t : Bool). guard t x) e

end_stands : (b k c : ℕ) → b ≡ suc k → may_stand b c (request_of (End c)) ≡ true
end_stands b k c e = grind (arith, nat_tests)

end_may_come : (d : Draft) (k : ℕ) → d.blocks ≡ suc k → may_come d (request_of (End d.inside)) ≡ true
end_may_come d k e = ap (λ (b : Bool). b && true && true) (end_stands d.blocks k d.inside e)

names : (len b i : ℕ) → (nat_le (len + b) 1048576 && nat_lt i 4294967296) ≡ true → i < 4294967296
names len b i h = grind (arith, nat_tests)

named : (d : Draft) → can_close d ≡ true → d.inside < 4294967296
named d h = names (length d.script.commands) d.blocks d.inside h

fewer : (len more b k i : ℕ) → more ≡ len + 1 → b ≡ suc k → (nat_le (len + b) 1048576 && nat_lt i 4294967296) ≡ true → (nat_le (more + (b - 1)) 1048576 && nat_lt i 4294967296) ≡ true
fewer len more b k i l e h = grind (arith, nat_tests)

end_added : (n k : ℕ) (d : Draft) → d.blocks ≡ suc k → can_close d ≡ true → can_close (command_added n d (End d.inside)) ≡ true
end_added n k d e h =
    fewer (length d.script.commands) (length (command_added n d (End d.inside)).script.commands) d.blocks k d.inside
    (length-append d.script.commands (record { line = n; act = End d.inside } ∷ [])) e h

-- a block is closed
end_comes : (n k : ℕ) (d : Draft) → d.blocks ≡ suc k → can_close d ≡ true → next n (Some d) (end_line d.inside) ≡ Some (command_added n d (End d.inside))
end_comes n k d e h =
    next_reads n (Some d) (end_line d.inside) (end_text d.inside (named d h))
    ∙ end_reads n d d.inside (named d h)
    ∙ ap (λ (o : Option Draft). o >>= if_closable) (holds (may_come d (request_of (End d.inside))) (command_added n d (End d.inside)) (end_may_come d k e))
    ∙ holds (can_close (command_added n d (End d.inside))) (command_added n d (End d.inside)) (end_added n k d e h)

-- all of them are
pub closing : (k n : ℕ) (d : Draft) → d.blocks ≡ k → can_close d ≡ true → (e : Draft) × (after n (Some d) (end_lines k d.inside) ≡ Some (Some e)) × (e.blocks ≡ 0)
closing zero n d e h = (d, refl, e)
closing (suc k) n d e h =
    let more = closing k (n + 1) (command_added n d (End d.inside)) (omega (arith, e)) (end_added n k d e h) in
    (more.0, ap (λ (o : Option Draft). o >>= λ t. after (n + 1) (Some t) (end_lines k d.inside)) (end_comes n k d e h) ∙ more.1, more.2)
