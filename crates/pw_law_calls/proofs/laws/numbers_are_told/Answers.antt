use Rattle.pw_law_calls.proofs.Told.{told_number}
use Rattle.pw_law_calls.proofs.laws.numbers_are_told.Goals as goal

pub returns : goal.returns
returns c = told_number
