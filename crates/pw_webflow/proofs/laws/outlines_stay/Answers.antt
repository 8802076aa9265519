use Rattle.pw_webflow.proofs.OutlineLaws.{outline_stays}
use Rattle.pw_webflow.proofs.laws.outlines_stay.Goals as goal

pub returns : goal.returns
returns c = outline_stays
