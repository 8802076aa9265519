use Rattle.pw_commands.proofs.RunningLemmas.{stop_untouched, stop_is_no_refusal}
use Rattle.pw_commands.proofs.running.run_image.Goals as goal

pub returns-in-Err-clause-rest : goal.returns-in-Err-clause-rest
returns-in-Err-clause-rest g c =
    stop_untouched c.in-Err.answer (g.S.Store.told c.args.store.now) c.args.budget (g.I.Source.rest c.args.input.now) c.in-Err.ensures.stop c.in-Err.ensures.machine

pub returns-in-Err-clause-run : goal.returns-in-Err-clause-run
returns-in-Err-clause-run g c = stop_is_no_refusal c.in-Err.answer c.in-Err.ensures.stop
