use Rattle.std.proofs.Common.{sym}
use Rattle.script_generator.proofs.generator.push_front.Goals as goal

pub returns : goal.returns
returns c = rw (sym c.name_of-name.ensures) c.write.ensures.bytes
