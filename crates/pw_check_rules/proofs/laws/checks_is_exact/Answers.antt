use Rattle.pw_check_rules.proofs.laws.checks_is_exact.Goals as goal
use Rattle.pw_check_rules.proofs.CheckLaws.{checks_is_exact}

pub returns : goal.returns
returns g = checks_is_exact
