use Rattle.pw_opt.proofs.Alone.{same_modules}
use Rattle.pw_opt.proofs.laws.optimised_forms_are_one.Goals as goal

pub returns : goal.returns
returns c = same_modules
