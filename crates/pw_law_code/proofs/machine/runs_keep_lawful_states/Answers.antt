use Rattle.pw_law_code.proofs.Starts.{starts_lawful}
use Rattle.pw_law_code.proofs.RunLaws.{later_from_start, later_in_run}
use Rattle.pw_law_code.proofs.machine.runs_keep_lawful_states.Goals as goal

pub returns-clause-start : goal.returns-clause-start
returns-clause-start c = starts_lawful

pub returns-clause-run : goal.returns-clause-run
returns-clause-run c = later_from_start

pub returns-clause-later : goal.returns-clause-later
returns-clause-later c = later_in_run
