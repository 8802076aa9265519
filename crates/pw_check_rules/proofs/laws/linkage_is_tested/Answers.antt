use Rattle.pw_check_rules.proofs.laws.linkage_is_tested.Goals as goal
use Rattle.pw_check_rules.proofs.OperandLaws.{linkage_forth, linkage_back}

pub returns : goal.returns
returns g s name asking = (linkage_back s name asking, linkage_forth s name asking)
