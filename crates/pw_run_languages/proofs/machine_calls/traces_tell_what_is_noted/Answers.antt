use Rattle.pw_run_languages.proofs.Telling.{trace_obeys, trace_tells}
use Rattle.pw_run_languages.proofs.machine_calls.traces_tell_what_is_noted.Goals as goal

pub returns-clause-tells : goal.returns-clause-tells
returns-clause-tells c = trace_tells

pub returns-clause-traffic : goal.returns-clause-traffic
returns-clause-traffic c = trace_obeys
