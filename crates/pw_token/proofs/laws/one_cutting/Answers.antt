use Rattle.std.proofs.Common.{true}
use Rattle.pw_token.proofs.CutLaws.{one-cutting}
use Rattle.pw_token.proofs.laws.one_cutting.Goals as goal

pub returns : goal.returns
returns c = λ text pieces others end last h k. one-cutting true text pieces end others last h k
