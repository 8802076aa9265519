use Rattle.pw_debug_frames.proofs.MadeLaws.{one_program}
use Rattle.pw_debug_frames.proofs.laws.objects_have_one_list_of_frames.Goals as goal

pub returns : goal.returns
returns c = one_program c.flow_graphs_and_files_are_one_to_one.ensures.one_module c.databases_and_payloads_are_one_to_one.ensures.one_database c.directives_are_one.ensures
