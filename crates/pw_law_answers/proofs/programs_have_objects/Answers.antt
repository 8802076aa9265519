use Rattle.pw_law_answers.proofs.Objects.{object_exists_under}
use Rattle.pw_law_answers.proofs.programs_have_objects.Goals as goal

pub returns : goal.returns
returns c = object_exists_under c.roots_are_there.ensures c.databases_are_lawful.ensures c.databases_are_one.ensures
