use Rattle.pw_check_rules.proofs.laws.compatible_is_tested.Goals as goal
use Rattle.pw_check_rules.proofs.CompatibleLaws.{forth, back}

pub returns : goal.returns
returns g a b = (back a b, forth)
