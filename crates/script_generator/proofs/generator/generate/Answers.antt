use Rattle.std.proofs.Common.{◌≡◌, ◌∙◌, ◌++◌, ap}
use Rattle.std.specs.Prelude.{string_bytes}
use Rattle.script_generator.specs.Generator.{front_lines, next_number, seed_dialect, stanza_of, stanza_text}
use Rattle.script_generator.specs.declared.stanza.Stanza.{Stanza}
use Rattle.script_generator.proofs.Stanzas.{number_more, text_more}
use Rattle.script_generator.proofs.generator.generate.Goals as goal

pub loop-i-preserved : goal.loop-i-preserved
loop-i-preserved c =
    let l = c.loop-i in
    let pushed : string_bytes c.push_stanza.new.text ≡ string_bytes l.text ++ stanza_text (stanza_of (next_number l.x)) l.i =
    c.in_ok-push_stanza.ensures ∙ ap (λ (s : Stanza). string_bytes l.text ++ stanza_text s l.i) (c.stanza_of.ensures ∙ ap stanza_of c.number_behind-x.ensures) in (
      text_more c.args.seed l.i l.x (front_lines (seed_dialect c.args.seed)) (string_bytes l.text) (string_bytes c.push_stanza.new.text) pushed l.invariant.0 l.invariant.1,
      ap next_number c.number_behind-x.ensures ∙ number_more c.args.seed l.i l.x l.invariant.1,
    )
