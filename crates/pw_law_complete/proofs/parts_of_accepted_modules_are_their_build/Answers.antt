use Rattle.pw_law_complete.proofs.Builds.{parts_build}
use Rattle.pw_law_complete.proofs.parts_of_accepted_modules_are_their_build.Goals as goal

pub returns : goal.returns
returns c = parts_build c.first_phases_declare_main.ensures c.objects_are_refused_for_room_alone.ensures.links
