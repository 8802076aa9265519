use Rattle.std.proofs.Common.{[], ◌∷◌}
use Rattle.pw_store_modules.specs.FileNames.{image_name}
use Rattle.pw_commands.proofs.ObeysLemmas.{obeys_linked, obeys_refused}
use Rattle.pw_commands.proofs.OthersLemmas.{kept_others, put_others}
use Rattle.pw_commands.proofs.linking.link_modules.Goals as goal

pub returns-in-Ok-clause-obeys : goal.returns-in-Ok-clause-obeys
returns-in-Ok-clause-obeys g c =
    obeys_linked c.images_and_files_are_one_to_one.ensures.one_file c.objects_have_one_answer.ensures.not_both (g.S.Store.told c.args.store.now) _ _ c.args.stack c.in-Ok.bytes.items c.put_file.result
    c.in-Ok.ensures.image c.linked_file.ensures.same (rw c.deref.ensures.value at c.put_file.ensures.put) c.put_file.ensures.answer

pub returns-in-Err-clause-obeys : goal.returns-in-Err-clause-obeys
returns-in-Err-clause-obeys g c =
    obeys_refused c.objects_have_one_answer.ensures.not_both c.objects_have_one_answer.ensures.one_fault (g.S.Store.told c.args.store.now) _ c.args.stack c.in-Err.answer
    c.in-Err.ensures.image c.linked_file.ensures.same c.in-Err.ensures.stop

pub returns-in-Ok-clause-others : goal.returns-in-Ok-clause-others
returns-in-Ok-clause-others g c =
    put_others (g.S.Store.told c.args.store.now) _ _ ((image_name, c.in-Ok.bytes.items) ∷ []) c.put_file.result c.linked_file.ensures.same (rw c.deref.ensures.value at c.put_file.ensures.put)

pub returns-in-Err-clause-others : goal.returns-in-Err-clause-others
returns-in-Err-clause-others g c = kept_others (image_name ∷ []) c.in-Err.answer (g.S.Store.told c.args.store.now) _ c.linked_file.ensures.same
