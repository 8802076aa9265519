use Rattle.pw_law_refine_start.proofs.Starts as starts
use Rattle.pw_law_refine_start.proofs.starts_match.Goals as goal

pub returns : goal.returns
returns c = starts.starts_match
