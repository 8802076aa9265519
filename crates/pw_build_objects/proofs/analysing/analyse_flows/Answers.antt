use Rattle.pw_build_objects.proofs.analysing.analyse_flows.Goals as goal

pub returns-clause-database : goal.returns-clause-database
returns-clause-database c = record {
  summaries = c.in_ok-summaries.summaries.items;
  of_flows = c.in_ok-summaries.ensures.summaries;
  linked = rw c.deref.ensures.value at c.in_ok-database.ensures.linked;
  database = rw c.deref.ensures.value at c.in_ok-database.ensures.database;
}
