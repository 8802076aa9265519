use Rattle.std.proofs.Common.{rules, subst}
use Rattle.pw_interp_pushes.specs.Staying.{StepsCall}
use Rattle.pw_interp_machine.proofs.Standings.{steps_in, steps_out}
use Rattle.pw_interp_machine.proofs.settling.settle.Goals as goal

pub returns-in_err-control : goal.returns-in_err-control
returns-in_err-control c main old act before behind s = steps_out _ (subst (λ r. StepsCall old act before r c.args.machine.now.call behind) c.in_err-control.was s) (search rules)

pub returns : goal.returns
returns c main old act before behind s = steps_in _ (subst (λ r. StepsCall old act before r c.args.machine.now.call behind) c.in_ok-control.was s)
