use Rattle.pw_build_objects.proofs.GenuineLaws.{change_nothing}
use Rattle.pw_build_objects.proofs.laws.genuine_objects_change_nothing.Goals as goal

pub returns : goal.returns
returns c = change_nothing (record {
  one_module = c.flow_graphs_and_files_are_one_to_one.ensures.one_module;
  one_database = c.databases_and_payloads_are_one_to_one.ensures.one_database;
  directives = c.directives_are_one.ensures;
})
