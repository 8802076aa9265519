use Rattle.pw_cpp_expand.proofs.OneOutcome.{one-reading}
use Rattle.pw_cpp_expand.proofs.laws.one_reading.Goals as goal

pub returns : goal.returns
returns c = λ text at p further other h k. one-reading c.one_head.ensures c.one_line.ensures c.one_end.ensures.rest text at p further other h k
