use Rattle.std.proofs.Common.{rules, refl}
use Rattle.pw_interp_todo.specs.Resuming.{control_act}
use Rattle.pw_interp_todo.proofs.LeadLaws.{leaves, then_more, then_stops}
use Rattle.pw_interp_pushes.proofs.settling.given.Goals as goal

pub returns-in_err-value : goal.returns-in_err-value
returns-in_err-value c call act before behind a = record { steps = λ rest. then_stops _ a c.in_err-value.was (search rules); room = refl; stands = refl }

pub returns : goal.returns
unfolding control_act
returns c call act before behind a = record { steps = λ rest. then_more _ a c.in_ok-value.was (leaves _); room = refl; stands = refl }
