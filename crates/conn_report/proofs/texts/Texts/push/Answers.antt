use Rattle.std.proofs.Common.{arith}
use Rattle.std.proofs.lemmas.Grind.{common_steps}
use Rattle.std.proofs.lemmas.Str.{is_utf8-from_IsUtf8}
use Rattle.conn_report.proofs.Parts.{part_texts-push, all-push}
use Rattle.conn_report.proofs.texts.Texts.push.Goals as goal

pub invariant_of-self-2 : goal.invariant_of-self-2
invariant_of-self-2 c =
    let text = is_utf8-from_IsUtf8 c.args.text.now c.utf8.text in
    let all = all-push c.self.inside.parts.items c.self.inside.buffer.items c.args.text.now text c.self.invariant in
    grind (arith, common_steps, all)

pub returns : goal.returns
returns c =
    let more = part_texts-push c.self.inside.parts.items c.self.inside.buffer.items c.args.text.now c.self.invariant in
    grind (arith, common_steps, more)
