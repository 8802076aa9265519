use Rattle.pw_law_build.proofs.Only.{can_be_built}
use Rattle.pw_law_build.proofs.refusals.what_is_built_can_be_built.Goals as goal

pub returns : goal.returns
returns c = can_be_built (record {
  declares = c.first_phases_declare_main.ensures;
  linked = c.flow_graphs_and_summaries_are_refused_alike.ensures.linked;
  links = c.objects_are_refused_for_room_alone.ensures.links;
  one = c.flow_graphs_have_one_answer.ensures.answer;
  nothing_changed = c.genuine_objects_change_nothing.ensures;
})
