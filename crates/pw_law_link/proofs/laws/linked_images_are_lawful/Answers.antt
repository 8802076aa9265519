use Rattle.pw_law_link.proofs.Lawful.{linked_is_lawful}
use Rattle.pw_law_link.proofs.laws.linked_images_are_lawful.Goals as goal

pub returns : goal.returns
returns c = linked_is_lawful
