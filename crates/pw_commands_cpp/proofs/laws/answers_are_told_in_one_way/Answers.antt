use Rattle.pw_commands_cpp.proofs.TellingLemmas.{told_once}
use Rattle.pw_commands_cpp.proofs.laws.answers_are_told_in_one_way.Goals as goal

pub returns : goal.returns
returns c = told_once c.one_output.ensures
