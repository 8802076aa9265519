use Rattle.pw_law_shown.proofs.Programs.{linked_alike, refused_alike}
use Rattle.pw_law_shown.proofs.linking.summaries_and_objects_are_refused_alike.Goals as goal

pub returns-clause-linked : goal.returns-clause-linked
returns-clause-linked c = λ flows ss objects valid declares sums made. linked_alike flows ss objects valid declares sums made

pub returns-clause-refused : goal.returns-clause-refused
returns-clause-refused c = λ flows ss objects fault valid declares sums made. refused_alike flows ss objects valid declares sums made fault
