use Rattle.pw_law_checked.proofs.limits.strings_of_texts.Goals as goal
use Rattle.pw_law_checked.proofs.Literals.{tree_strings}

pub returns : goal.returns
returns g = tree_strings
