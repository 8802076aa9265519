use Rattle.pw_law_build.proofs.Builds.{never_refused}
use Rattle.pw_law_build.proofs.refusals.accepted_modules_are_built.Goals as goal

pub returns : goal.returns
returns c = never_refused c.modules_have_one_answer.ensures.not_both c.flow_graphs_and_summaries_are_refused_alike.ensures.refused c.objects_are_refused_for_room_alone.ensures.room c.first_phases_declare_main.ensures c.genuine_objects_change_nothing.ensures
