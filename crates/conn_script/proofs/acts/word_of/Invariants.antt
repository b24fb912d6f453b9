use Rattle.std.proofs.Common.{◌≡◌, drop}
use Rattle.std.specs.List.{find}
use Rattle.std.specs.Str.{bytes_eq}
use Rattle.conn_script.specs.Spelling.{word_text, all_words, word_named}
use Rattle.conn_script.proofs.acts.word_of.Given as goal

-- the words that are left have the one that is spelled so
abbrev pub invariant-loop-word : goal.invariant-loop-word
invariant-loop-word l = find (λ w. bytes_eq l.text (word_text w)) (drop l.word-index all_words) ≡ word_named l.text
