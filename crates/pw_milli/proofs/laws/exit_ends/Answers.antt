use Rattle.pw_milli.proofs.LibraryCalls.{exit_inside}
use Rattle.pw_milli.proofs.laws.exit_ends.Goals as goal

pub returns-clause-inside : goal.returns-clause-inside
returns-clause-inside c = exit_inside
