use Rattle.pw_cmean.specs.Evaluation.{answer_of}
use Rattle.pw_interp_asks.proofs.names.own_place.Goals as goal

pub returns-clause-locates : goal.returns-clause-locates
unfolding answer_of
returns-clause-locates c bound token ty s = c.local_place.ensures.answers s
