use Rattle.pw_law_refine_steps.proofs.Conversions.{conversions}
use Rattle.pw_law_refine_steps.proofs.conversions_agree.Goals as goal

pub returns : goal.returns
returns c = conversions
