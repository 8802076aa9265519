use Rattle.pw_run.specs.Runs.{Same}
use Rattle.pw_run_languages.proofs.Late.{late_itself, refines_is_late, late_same, calls_in_time, same_kind}
use Rattle.pw_run_languages.proofs.run_lines.late_logs_compose.Goals as goal

pub returns-clause-itself : goal.returns-clause-itself
returns-clause-itself c = λ a. late_itself a

pub returns-clause-exact : goal.returns-clause-exact
returns-clause-exact c = λ a b r. refines_is_late Same a b r

pub returns-clause-below : goal.returns-clause-below
returns-clause-below c = λ a b d p r. late_same a b d p r

pub returns-clause-calls : goal.returns-clause-calls
returns-clause-calls c = λ a b p. calls_in_time Same same_kind a b p
