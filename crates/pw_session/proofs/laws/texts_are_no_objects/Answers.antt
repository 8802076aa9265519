use Rattle.pw_session.proofs.TextLaws.{texts_keep}
use Rattle.pw_session.proofs.laws.texts_are_no_objects.Goals as goal

pub returns : goal.returns
returns c = texts_keep c.texts_are_not_built.ensures.object
