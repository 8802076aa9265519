use Rattle.pw_build_objects.proofs.FormLaws.{forms_count, forms_declare, forms_lawful, forms_link}
use Rattle.pw_build_objects.proofs.laws.forms_keep_what_modules_have.Goals as goal

pub returns : goal.returns
returns c = record {
  count = forms_count;
  lawful = forms_lawful c.optimisation_keeps_lawful.ensures;
  declare = forms_declare c.optimisation_shows_no_more.ensures;
  rules = forms_link c.flow_graphs_and_summaries_are_refused_alike.ensures.linked c.optimised_modules_stay_linked.ensures c.optimisation_keeps_lawful.ensures;
}
