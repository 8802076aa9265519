use Rattle.pw_law_selection.proofs.Words.{registers_hold_words}
use Rattle.pw_law_selection.proofs.registers_hold_words.Goals as goal

pub returns : goal.returns
returns c = registers_hold_words c.numbers_are_stored.ensures.bounded c.numbers_are_stored.ensures.bytes c.selected_lines_are_ready.ensures.served c.runs_start.ensures.memory
