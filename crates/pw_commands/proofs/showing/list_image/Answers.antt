use Rattle.pw_commands.proofs.ShowingLemmas.{lists, lists_not}
use Rattle.pw_commands.proofs.showing.list_image.Goals as goal

pub returns-in-Ok-clause-shows : goal.returns-in-Ok-clause-shows
returns-in-Ok-clause-shows g c =
    lists c.an_image_has_one_listing.ensures (g.S.Store.told c.args.store.now) c.in-Ok.text.items c.print.result _ _ c.in-Ok.ensures.text c.print.ensures.answer
    (rw c.deref.ensures.value at c.print.ensures.output)

pub returns-in-Err-clause-shows : goal.returns-in-Err-clause-shows
returns-in-Err-clause-shows g c = lists_not (g.S.Store.told c.args.store.now) c.in-Err.answer (g.O.Sink.taken c.args.out.now) c.in-Err.ensures.text c.in-Err.ensures.stop
