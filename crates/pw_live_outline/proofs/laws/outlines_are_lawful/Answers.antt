use Rattle.pw_live_outline.proofs.Lawful.{outline_is}
use Rattle.pw_live_outline.proofs.laws.outlines_are_lawful.Goals as goal

pub returns : goal.returns
returns c = outline_is
