use Rattle.std.proofs.lemmas.Option.{IfSome_then}
use Rattle.pw_commands.proofs.RunLemmas.{run_puts, run_leaves}
use Rattle.pw_commands.proofs.machine_run.run_machine.Goals as goal

pub returns-clause-output : goal.returns-clause-output
returns-clause-output g c =
    rw c.answer_of_stop.ensures
    (IfSome_then (g.I.Source.rest c.args.input.now) c.run.ensures.run.over
    (λ rest ran. run_puts _ rest c.args.budget c.run.result _ _ _ _ _ ran))

pub returns-clause-rest : goal.returns-clause-rest
returns-clause-rest g c =
    rw c.answer_of_stop.ensures
    (IfSome_then (g.I.Source.rest c.args.input.now) c.run.ensures.run.over
    (λ rest ran. run_leaves _ rest c.args.budget c.run.result _ _ _ _ _ ran))
