use Rattle.script_generator.proofs.Scripts.{is_a_script}
use Rattle.script_generator.proofs.law.generated_bytes_are_a_script.Goals as goal

pub returns : goal.returns
returns c = is_a_script
