use Rattle.conn_script.proofs.Marks.{word_has_none}
use Rattle.conn_script.proofs.statement.behind_word.Goals as goal

pub returns : goal.returns
returns c = rw c.as_bytes.ensures.value (word_has_none c.args.text.now c.requires)
