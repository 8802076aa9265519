use Rattle.pw_build_objects.proofs.LoopLemmas.{summary_end}
use Rattle.pw_build_objects.proofs.analysing.summaries_of.Goals as goal

pub returns-clause-summaries : goal.returns-clause-summaries
returns-clause-summaries c = summary_end c.args.flows.now c.loop-rest.rest.now c.loop-rest.summaries.items c.in_default.len_below c.loop-rest.invariant.so_far
