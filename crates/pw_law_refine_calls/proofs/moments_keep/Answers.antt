use Rattle.pw_law_refine_calls.proofs.Moments.{moment-keeps}
use Rattle.pw_law_refine_calls.proofs.moments_keep.Goals as goal

pub returns : goal.returns
returns c = moment-keeps
