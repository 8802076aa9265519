use Rattle.pw_law_code.proofs.SelectedLines.{selected_no_call}
use Rattle.pw_select.specs.Selection.{selected}
use Rattle.pw_law_code.proofs.code.selected_calls_are_relocated.Goals as goal

pub returns : goal.returns
returns c = λ f. c.calls_and_jumps_are_relocated.ensures (selected f) (selected_no_call f)
