use Rattle.pw_build_objects.proofs.MadeLemmas.{anew_is, kept_is}
use Rattle.pw_build_objects.proofs.remade.object_from.Goals as goal

pub returns-in-Some-clause-object : goal.returns-in-Some-clause-object
returns-in-Some-clause-object g c = kept_is c.args.flow c.args.directives.now c.in_ok-origin.origin c.args.old c.in-Some.object c.in_ok-origin.ensures (rw c.in-Some.is at c.taken.ensures)

pub returns-in_ok-new_object-in-None-clause-object : goal.returns-in_ok-new_object-in-None-clause-object
returns-in_ok-new_object-in-None-clause-object g c =
    anew_is c.flow_graphs_and_files_are_one_to_one.ensures.one_file c.one_list_is_stored.ensures.one_payload c.args.flow c.args.directives.now c.in_ok-origin.origin c.args.old _ c.in_ok-origin.ensures (rw c.in-None.is at c.taken.ensures)
    c.in_ok-new_object-in-None.ensures.object
