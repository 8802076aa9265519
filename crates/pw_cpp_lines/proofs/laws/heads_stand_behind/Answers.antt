use Rattle.pw_cpp_lines.proofs.GoingOn.{directive-behind, marker-behind, space-behind}
use Rattle.pw_cpp_lines.proofs.laws.heads_stand_behind.Goals as goal

pub returns-clause-marker : goal.returns-clause-marker
returns-clause-marker c = λ text at hash h. marker-behind text at hash h

pub returns-clause-directive : goal.returns-clause-directive
returns-clause-directive c = λ text at hash name h. directive-behind text at hash name h

pub returns-clause-space : goal.returns-clause-space
returns-clause-space c = λ text at end h. space-behind text at end h
