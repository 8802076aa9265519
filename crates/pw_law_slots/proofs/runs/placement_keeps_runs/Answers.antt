use Rattle.pw_law_slots.proofs.Placing.{placement_keeps}
use Rattle.pw_law_slots.proofs.runs.placement_keeps_runs.Goals as goal

pub returns : goal.returns
returns c = λ p d functions w scratch input program database serve frames start lawful bytes. placement_keeps c.filling_keeps_runs.ensures p functions w scratch input
