use Rattle.std.proofs.Common.{◌∙◌, ◌+◌, sym, drop, get_or}
use Rattle.std.specs.Str.{bytes_eq}
use Rattle.std.proofs.lemmas.List.{drop_more}
use Rattle.conn_script.specs.Spelling.{word_text, all_words}
use Rattle.conn_script.specs.declared.command.Word.TheVariants.{Get}
use Rattle.conn_script.proofs.Tables.{find_passed}
use Rattle.conn_script.proofs.acts.word_of.Goals as goal

pub loop-word-preserved : goal.loop-word-preserved
loop-word-preserved c =
    let i = c.loop-word.word-index in
    find_passed (λ w. bytes_eq c.args.text.now (word_text w)) (drop i all_words) (drop (i + 1) all_words) (get_or all_words i Get) (drop_more all_words i Get c.loop-word-test.true) (rw c.name.ensures at (sym c.eq.ensures) ∙ c.if-eq.false)
    ∙ c.loop-word.invariant
