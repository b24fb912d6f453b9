use Rattle.std.proofs.Common.{◌≡◌, ◌++◌}
use Rattle.std.specs.Prelude.{string_bytes}
use Rattle.script_generator.specs.Generator.{front_lines, next_number, seed_dialect, stanza_number, first_stanzas}
use Rattle.script_generator.proofs.generator.generate.Given as goal

-- the stanzas so far stand behind the first lines, and the next number is that of the next one
abbrev pub invariant-loop-i : goal.invariant-loop-i
invariant-loop-i l =
    (string_bytes l.text ≡ front_lines (seed_dialect l.seed) ++ first_stanzas l.seed l.i)
    × (next_number l.x ≡ stanza_number l.seed l.i)
