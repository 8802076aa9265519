use Rattle.pw_law_shown.proofs.Programs.{shown_linked, shown_refused}
use Rattle.pw_law_shown.proofs.linking.flow_graphs_and_summaries_are_refused_alike.Goals as goal

pub returns-clause-linked : goal.returns-clause-linked
returns-clause-linked c = λ flows ss valid sums. shown_linked flows ss valid sums

pub returns-clause-refused : goal.returns-clause-refused
returns-clause-refused c = λ flows ss fault valid sums. shown_refused flows ss valid sums fault
