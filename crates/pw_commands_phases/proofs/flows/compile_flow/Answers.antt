use Rattle.std.proofs.Common.{[], ◌∷◌, ◌++◌}
use Rattle.pw_store_modules.specs.FileNames.{object_ending}
use Rattle.pw_commands_phases.specs.Second.{phase_two_puts}
use Rattle.pw_commands.proofs.OthersLemmas.{kept_others, put_others}
use Rattle.pw_commands_phases.proofs.SecondLemmas.{made_put, none_put, obeys_made, obeys_stopped, put_is_store, stop_is_store}
use Rattle.pw_commands_phases.proofs.flows.compile_flow.Goals as goal

pub returns-in-Ok-clause-obeys : goal.returns-in-Ok-clause-obeys
returns-in-Ok-clause-obeys g c =
    obeys_made (record { directives = c.directives_are_one.ensures; object = c.a_module_has_one_object.ensures; file = c.objects_and_files_are_one_to_one.ensures.one_file })
    (g.S.Store.told c.args.store.now) _ _ c.args.name.now c.in-Ok.bytes.items c.put_bytes.result
    c.in-Ok.ensures.object c.object_bytes.ensures.same (rw c.deref.ensures.value at c.put_bytes.ensures.put) c.put_bytes.ensures.answer

pub returns-in-Err-clause-obeys : goal.returns-in-Err-clause-obeys
returns-in-Err-clause-obeys g c =
    obeys_stopped (g.S.Store.told c.args.store.now) _ c.args.name.now c.in-Err.answer
    c.in-Err.ensures.object c.object_bytes.ensures.same c.in-Err.ensures.stop

pub returns-in-Ok-clause-answer : goal.returns-in-Ok-clause-answer
returns-in-Ok-clause-answer g c = put_is_store c.put_bytes.result c.put_bytes.ensures.answer

pub returns-in-Err-clause-answer : goal.returns-in-Err-clause-answer
returns-in-Err-clause-answer g c = stop_is_store c.in-Err.answer c.in-Err.ensures.stop

pub returns-in-Ok-clause-others : goal.returns-in-Ok-clause-others
returns-in-Ok-clause-others g c =
    put_others (g.S.Store.told c.args.store.now) _ _ ((c.args.name.now ++ object_ending, c.in-Ok.bytes.items) ∷ []) c.put_bytes.result c.object_bytes.ensures.same (rw c.deref.ensures.value at c.put_bytes.ensures.put)

pub returns-in-Err-clause-others : goal.returns-in-Err-clause-others
returns-in-Err-clause-others g c = kept_others (phase_two_puts c.args.name.now) c.in-Err.answer (g.S.Store.told c.args.store.now) _ c.object_bytes.ensures.same

pub returns-in-Ok-clause-made : goal.returns-in-Ok-clause-made
returns-in-Ok-clause-made g c =
    made_put (g.S.Store.told c.args.store.now) _ _ c.args.name.now c.in-Ok.bytes.items c.put_bytes.result c.in-Ok.ensures.made c.object_bytes.ensures.same
    (rw c.deref.ensures.value at c.put_bytes.ensures.put) c.put_bytes.ensures.answer

pub returns-in-Err-clause-made : goal.returns-in-Err-clause-made
returns-in-Err-clause-made g c = none_put (g.S.Store.told c.args.store.now) _ c.args.name.now c.object_bytes.ensures.same
