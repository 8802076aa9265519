use Rattle.pw_milli.proofs.LibraryCalls.{getchar_inside}
use Rattle.pw_milli.proofs.laws.getchar_reads.Goals as goal

pub returns-clause-inside : goal.returns-clause-inside
returns-clause-inside c = getchar_inside
