use Rattle.pw_law_code.proofs.SelectedLines.{selected_ready}
use Rattle.pw_law_code.proofs.ServedLines.{served_ready}
use Rattle.pw_law_code.proofs.code.selected_lines_are_ready.Goals as goal

pub returns-clause-located : goal.returns-clause-located
returns-clause-located c = selected_ready

pub returns-clause-served : goal.returns-clause-served
returns-clause-served c = served_ready
