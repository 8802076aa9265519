use Rattle.pw_law_linked.proofs.Served.{frame_served, sparing_served}
use Rattle.pw_law_linked.proofs.served_functions_are_sparing.Goals as goal

pub returns-clause-frame : goal.returns-clause-frame
returns-clause-frame c = frame_served

pub returns-clause-sparing : goal.returns-clause-sparing
returns-clause-sparing c = sparing_served
