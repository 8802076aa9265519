use Rattle.std.proofs.Common.{rules, refl}
use Rattle.pw_interp_todo.specs.Resuming.{control_act}
use Rattle.pw_interp_todo.proofs.LeadLaws.{in_front, left_so}
use Rattle.pw_interp_pushes.proofs.Stopping.{goes_by, stops_by, stops_on}
use Rattle.pw_interp_pushes.proofs.Staying.{left_stops}
use Rattle.pw_interp_pushes.proofs.settling.transferred.Goals as goal

pub returns-in_err-transfer : goal.returns-in_err-transfer
returns-in_err-transfer c call act before behind a =
    record { steps = λ rest. left_stops _ (search rules) (stops_on _ _ _ _ _ _ (stops_by a c.in_err-transfer.was)); room = refl; stands = refl }

pub returns : goal.returns
unfolding control_act
returns c call act before behind a = record { steps = λ rest. left_so _ refl (in_front _ (goes_by a c.in_ok-transfer.was)); room = refl; stands = refl }
