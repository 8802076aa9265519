use Rattle.pw_law_lower.proofs.Laws.{function_lawful}
use Rattle.pw_law_lower.proofs.functions.functions_are_lawful.Goals as goal

pub returns : goal.returns
returns c = function_lawful
