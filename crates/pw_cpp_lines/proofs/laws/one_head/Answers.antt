use Rattle.pw_cpp_lines.proofs.OneLine.{one-head}
use Rattle.pw_cpp_lines.proofs.laws.one_head.Goals as goal

pub returns : goal.returns
returns c = λ text at head other h k. one-head c.piece_at_is_exact.ensures text at head other h k
