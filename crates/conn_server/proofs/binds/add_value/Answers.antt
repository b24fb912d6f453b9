use Rattle.std.proofs.Common.{ap, ◌∙◌}
use Rattle.std.specs.Str.{is_utf8}
use Rattle.std.proofs.lemmas.Str.{is_utf8-from_IsUtf8}
use Rattle.conn_server.proofs.binds.add_value.Goals as goal

pub returns-in-Text-clause-stands : goal.returns-in-Text-clause-stands
returns-in-Text-clause-stands c = record {
  within = c.add_bytes.ensures.within;
  utf8 = ap is_utf8 c.add_bytes.ensures.is ∙ is_utf8-from_IsUtf8 c.as_bytes.result.now c.as_bytes.ensures.utf8;
}
