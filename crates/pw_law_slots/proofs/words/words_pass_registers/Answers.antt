use Rattle.pw_law_slots.proofs.Passing.{words_past}
use Rattle.pw_law_slots.proofs.words.words_pass_registers.Goals as goal

pub returns : goal.returns
returns c = words_past c.actions_go_by_registers.ensures.sources c.actions_go_by_registers.ensures.targets
