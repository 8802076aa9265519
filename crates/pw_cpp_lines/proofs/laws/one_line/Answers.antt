use Rattle.pw_cpp_lines.proofs.OneLine.{one-line}
use Rattle.pw_cpp_lines.proofs.laws.one_line.Goals as goal

pub returns : goal.returns
returns c = λ text at answer other h k. one-line c.piece_at_is_exact.ensures text at answer other h k
