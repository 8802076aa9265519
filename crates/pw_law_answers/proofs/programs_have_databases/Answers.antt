use Rattle.pw_law_answers.proofs.Objects.{database_exists}
use Rattle.pw_law_answers.proofs.programs_have_databases.Goals as goal

pub returns : goal.returns
returns c = database_exists c.roots_are_there.ensures
