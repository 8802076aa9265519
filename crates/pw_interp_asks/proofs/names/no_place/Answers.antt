use Rattle.std.proofs.Common.{refl}
use Rattle.pw_cmean.specs.SourceRun.{calls}
use Rattle.pw_interp_calls.proofs.AnswerLaws.{ends_so, same}
use Rattle.pw_cmean.specs.Acts.{wrong}
use Rattle.pw_interp_asks.proofs.PlaceLemmas.{no_lvalue}
use Rattle.pw_interp_asks.proofs.names.no_place.Goals as goal

pub returns : goal.returns
unfolding wrong
returns c e bound token ty form s is = same (no_lvalue token ty form (calls e.world bound) e is) (ends_so refl)
