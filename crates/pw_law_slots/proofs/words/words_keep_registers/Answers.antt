use Rattle.pw_law_slots.proofs.Passing.{words_keep}
use Rattle.pw_law_slots.proofs.words.words_keep_registers.Goals as goal

pub returns : goal.returns
returns c = words_keep c.actions_go_by_registers.ensures.targets
