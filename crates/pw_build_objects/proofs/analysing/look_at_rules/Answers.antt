use Rattle.pw_build_objects.proofs.analysing.look_at_rules.Goals as goal

pub returns-clause-keep : goal.returns-clause-keep
returns-clause-keep c = record {
  summaries = c.in_ok-summaries.summaries.items;
  of_flows = c.in_ok-summaries.ensures.summaries;
  linked = rw c.deref.ensures.value at c.in_ok-build_graph.ensures.linked;
}
