use Rattle.pw_commands.proofs.ObeysLemmas.{linked_over, stopped_over}
use Rattle.pw_commands.proofs.linking.linked_file.Goals as goal

pub returns-in-Err-clause-image : goal.returns-in-Err-clause-image
returns-in-Err-clause-image g c =
    stopped_over (g.S.Store.told c.args.store.now) c.args.stack c.in-Err.answer c.in-Err.ensures.values

pub returns-in-Ok-clause-image : goal.returns-in-Ok-clause-image
returns-in-Ok-clause-image g c =
    linked_over (g.S.Store.told c.args.store.now) c.args.stack c.in-Ok.objects.items c.image_file.result c.in-Ok.ensures.values (rw c.deref.ensures.value at c.image_file.ensures.image)
