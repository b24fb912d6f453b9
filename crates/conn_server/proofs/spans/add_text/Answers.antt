use Rattle.std.proofs.Common.{arith}
use Rattle.std.proofs.lemmas.Grind.{common_steps}
use Rattle.std.specs.Prelude.{string_bytes}
use Rattle.std.proofs.lemmas.Str.{is_utf8-from_IsUtf8, IsUtf8-string_bytes}
use Rattle.conn_server.proofs.Spanning.{IsTextSpan-new}
use Rattle.conn_server.proofs.spans.add_text.Goals as goal

pub returns-clause-stands : goal.returns-clause-stands
returns-clause-stands c =
    let old = c.args.buffer.now in
    let stands = IsTextSpan-new (string_bytes old) c.args.text.now (is_utf8-from_IsUtf8 (string_bytes old) (IsUtf8-string_bytes old)) (is_utf8-from_IsUtf8 c.args.text.now c.utf8.text) in
    grind (arith, common_steps, stands)
