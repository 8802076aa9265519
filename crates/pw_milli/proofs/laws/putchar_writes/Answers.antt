use Rattle.pw_milli.proofs.LibraryCalls.{putchar_inside}
use Rattle.pw_milli.proofs.laws.putchar_writes.Goals as goal

pub returns-clause-inside : goal.returns-clause-inside
returns-clause-inside c = putchar_inside
