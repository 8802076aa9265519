use Rattle.pw_store_modules.proofs.Exact.{map_is_exact, map_rises}
use Rattle.pw_store_modules.proofs.laws.modules_are_exact.Goals as goal

pub returns-clause-exact : goal.returns-clause-exact
returns-clause-exact c = map_is_exact

pub returns-clause-rising : goal.returns-clause-rising
returns-clause-rising c = map_rises
