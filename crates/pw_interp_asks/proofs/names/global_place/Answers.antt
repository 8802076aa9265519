use Rattle.pw_cmean.specs.Evaluation.{answer_of}
use Rattle.pw_interp_asks.proofs.names.global_place.Goals as goal

pub returns : goal.returns
unfolding answer_of
returns c bound token ty s = c.symbol_place.ensures s
