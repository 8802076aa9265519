use Rattle.pw_law_lower.proofs.LawfulModules.{module_lawful}
use Rattle.pw_law_lower.proofs.modules.modules_are_lawful.Goals as goal

pub returns : goal.returns
returns c = module_lawful
