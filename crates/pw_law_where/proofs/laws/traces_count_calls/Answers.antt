use Rattle.pw_law_where.proofs.Traces.{trace_counts}
use Rattle.pw_law_where.proofs.laws.traces_count_calls.Goals as goal

pub returns : goal.returns
returns c = trace_counts
