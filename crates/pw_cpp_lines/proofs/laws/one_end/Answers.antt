use Rattle.pw_cpp_lines.proofs.OneEnd.{one-passed, one-rest}
use Rattle.pw_cpp_lines.proofs.OneLine.{one_space}
use Rattle.pw_cpp_lines.proofs.laws.one_end.Goals as goal

pub returns-clause-space : goal.returns-clause-space
returns-clause-space c = λ text at end other h k. one_space c.piece_at_is_exact.ensures text at end other h k

pub returns-clause-rest : goal.returns-clause-rest
returns-clause-rest c = λ text at next other h k. one-rest text at next other h k

pub returns-clause-line : goal.returns-clause-line
returns-clause-line c = λ text at next other h k. one-passed text at next other h k
