use Rattle.pw_law_code.proofs.CompiledWords.{programs_have_parts}
use Rattle.pw_law_code.proofs.code.programs_have_lawful_parts.Goals as goal

pub returns : goal.returns
returns c = programs_have_parts
