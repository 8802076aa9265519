use Rattle.pw_commands.proofs.ShowingLemmas.{shows_not, shows_text}
use Rattle.pw_commands.proofs.showing.show_database.Goals as goal

pub returns-in-Ok-clause-shows : goal.returns-in-Ok-clause-shows
returns-in-Ok-clause-shows g c =
    shows_text (g.S.Store.told c.args.store.now) c.in-Ok.text.items c.print.result _ _ c.in-Ok.ensures.text c.print.ensures.answer
    (rw c.deref.ensures.value at c.print.ensures.output)

pub returns-in-Err-clause-shows : goal.returns-in-Err-clause-shows
returns-in-Err-clause-shows g c = shows_not (g.S.Store.told c.args.store.now) c.in-Err.answer (g.O.Sink.taken c.args.out.now) c.in-Err.ensures.text c.in-Err.ensures.stop
