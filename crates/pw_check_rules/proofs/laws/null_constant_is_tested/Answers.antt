use Rattle.pw_check_rules.proofs.laws.null_constant_is_tested.Goals as goal
use Rattle.pw_check_rules.proofs.AssignableLaws.{null_forth, null_back}

pub returns : goal.returns
returns g e = (null_back e, null_forth e)
