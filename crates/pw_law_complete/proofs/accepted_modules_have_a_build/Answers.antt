use Rattle.std.proofs.Common.{[]}
use Rattle.pw_law_complete.proofs.Parts.{summaries_exist}
use Rattle.pw_law_complete.proofs.accepted_modules_have_a_build.Goals as goal

pub returns : goal.returns
returns c = λ sources opts few can files.
    let a = can.accepted in
    let valid = c.first_phases_are_lawful.ensures sources a.flows a.one_by_one in
    let ss = summaries_exist c.modules_have_summaries.ensures.one a.flows valid in
    let linked = (c.flow_graphs_and_summaries_are_refused_alike.ensures.linked a.flows ss.0 valid ss.1).0 a.together in
    let parts = c.programs_have_parts.ensures a.flows ss.0 [] opts few valid files ss.1 ss.2 linked in
    (parts.0, c.parts_of_accepted_modules_are_their_build.ensures sources opts parts.0 can parts.1)
