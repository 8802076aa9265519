use Rattle.std.proofs.Common.{[]}
use Rattle.pw_law_complete.proofs.Parts.{summaries_exist}
use Rattle.pw_law_complete.proofs.Builds.{Laws, build_exists}
use Rattle.pw_law_complete.proofs.builds_have_an_answer.Goals as goal

pub returns : goal.returns
returns c = λ sources opts few files.
    let laws : Laws = record {
      lawful = c.first_phases_are_lawful.ensures;
      declares = c.first_phases_declare_main.ensures;
      summaries = summaries_exist c.modules_have_summaries.ensures.one;
      alike = λ flows ss valid of linked. (c.flow_graphs_and_summaries_are_refused_alike.ensures.linked flows ss valid of).1 linked;
      link = c.modules_link_or_are_refused.ensures;
      links = c.objects_are_refused_for_room_alone.ensures.links;
      parts = c.programs_have_parts.ensures;
    } in
    let b = build_exists laws sources opts few files in
    (b.0, b.1, λ other h. c.modules_have_one_build.ensures.answer sources [] opts other b.0 few h b.1)
