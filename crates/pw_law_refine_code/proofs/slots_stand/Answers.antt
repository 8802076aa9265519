use Rattle.pw_law_refine_code.proofs.Slots.{slot-is, slots-apart, addressed-have-slots, parameters-in-place}
use Rattle.pw_law_refine_code.proofs.slots_stand.Goals as goal

pub returns-clause-sizes : goal.returns-clause-sizes
returns-clause-sizes c = slot-is

pub returns-clause-apart : goal.returns-clause-apart
returns-clause-apart c = slots-apart

pub returns-clause-addressed : goal.returns-clause-addressed
returns-clause-addressed c = addressed-have-slots

pub returns-clause-parameters : goal.returns-clause-parameters
returns-clause-parameters c = parameters-in-place
