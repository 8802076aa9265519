use Rattle.pw_law_made.proofs.Made.{all_frames}
use Rattle.pw_law_made.proofs.laws.built_objects_have_their_frames.Goals as goal

pub returns : goal.returns
returns c = λ db flows os fresh frames lawful from are.
    all_frames db (c.directives_are_one.ensures db lawful) c.made_objects_have_their_frames.ensures.frames flows os fresh frames from are
