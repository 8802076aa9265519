use Rattle.pw_law_checked.proofs.well_typed.start_is_lawful.Goals as goal
use Rattle.pw_law_checked.proofs.Laws.{start_lawful}

pub returns : goal.returns
returns g = start_lawful
