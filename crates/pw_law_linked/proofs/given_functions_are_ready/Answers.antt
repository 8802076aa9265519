use Rattle.pw_law_linked.proofs.Ready.{ready_given, frames_given, sparing_given}
use Rattle.pw_law_linked.proofs.given_functions_are_ready.Goals as goal

pub returns-clause-ready : goal.returns-clause-ready
returns-clause-ready c = ready_given c.selected_lines_are_ready.ensures.served

pub returns-clause-frames : goal.returns-clause-frames
returns-clause-frames c = frames_given

pub returns-clause-sparing : goal.returns-clause-sparing
returns-clause-sparing c = sparing_given
