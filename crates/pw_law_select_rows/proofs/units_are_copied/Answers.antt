use Rattle.pw_law_select_rows.proofs.Units.{unit_copies}
use Rattle.pw_law_select_rows.proofs.units_are_copied.Goals as goal

pub returns : goal.returns
returns c = unit_copies
