use Rattle.pw_law_slots.proofs.Turning.{steps_take}
use Rattle.pw_law_slots.proofs.turns.turns_take_words.Goals as goal

pub returns : goal.returns
returns c = steps_take c.actions_go_by_registers.ensures.sources c.actions_go_by_registers.ensures.targets
