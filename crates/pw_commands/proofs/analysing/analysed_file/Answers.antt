use Rattle.pw_commands.proofs.AnalysingLemmas.{analysed_over, stopped_over}
use Rattle.pw_commands.proofs.analysing.analysed_file.Goals as goal

pub returns-in-Err-clause-file : goal.returns-in-Err-clause-file
returns-in-Err-clause-file g c =
    stopped_over (g.S.Store.told c.args.store.now) c.args.colours c.in-Err.answer c.in-Err.ensures.values

pub returns-in-Ok-clause-file : goal.returns-in-Ok-clause-file
returns-in-Ok-clause-file g c =
    analysed_over (g.S.Store.told c.args.store.now) c.args.colours c.in-Ok.summaries.items c.database_file.result c.in-Ok.ensures.values (rw c.deref.ensures.value at c.database_file.ensures.file)
