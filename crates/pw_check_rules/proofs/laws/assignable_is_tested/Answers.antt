use Rattle.pw_check_rules.proofs.laws.assignable_is_tested.Goals as goal
use Rattle.pw_check_rules.proofs.AssignableLaws.{assignable_forth, assignable_back}

pub returns : goal.returns
returns g to e = (assignable_back to e, assignable_forth to e)
