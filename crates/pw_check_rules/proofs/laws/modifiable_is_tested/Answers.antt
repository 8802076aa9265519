use Rattle.pw_check_rules.proofs.laws.modifiable_is_tested.Goals as goal
use Rattle.pw_check_rules.proofs.OperandLaws.{modifiable_forth, modifiable_back}

pub returns : goal.returns
returns g records a = (modifiable_back records a, modifiable_forth records a)
