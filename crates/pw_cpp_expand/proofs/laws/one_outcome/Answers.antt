use Rattle.pw_cpp_expand.proofs.OneOutcome.{one-outcome}
use Rattle.pw_cpp_expand.proofs.laws.one_outcome.Goals as goal

pub returns : goal.returns
returns c = λ source text macros mode pending p outcome other h k. one-outcome c.one_head.ensures c.one_line.ensures c.one_end.ensures.rest source text macros mode pending p outcome other h k
