use Rattle.pw_law_levels.proofs.Selected.{pointed}
use Rattle.pw_law_levels.proofs.selected_functions_are_pointed.Goals as goal

pub returns : goal.returns
returns c = λ x g f. pointed c.actions_go_by_registers.ensures.targets x c.parts_are_filled_alone.ensures.parts g f
