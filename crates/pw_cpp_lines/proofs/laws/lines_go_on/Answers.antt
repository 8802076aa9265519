use Rattle.pw_cpp_lines.proofs.GoingOn.{lexed-behind, line-behind, line-few, rest-behind}
use Rattle.pw_cpp_lines.proofs.laws.lines_go_on.Goals as goal

pub returns-clause-lexed : goal.returns-clause-lexed
returns-clause-lexed c = λ text at line h. lexed-behind text at line h

pub returns-clause-tokens : goal.returns-clause-tokens
returns-clause-tokens c = λ text at line h. line-few c.piece_at_is_exact.ensures text at line h

pub returns-clause-rest : goal.returns-clause-rest
returns-clause-rest c = λ text at next h. rest-behind text at next h

pub returns-clause-line : goal.returns-clause-line
returns-clause-line c = λ text at next h. line-behind text at next h
