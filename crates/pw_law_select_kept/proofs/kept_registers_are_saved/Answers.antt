use Rattle.pw_law_select_kept.proofs.Saved.{kept_registers_are_saved}
use Rattle.pw_law_select_kept.proofs.kept_registers_are_saved.Goals as goal

pub returns : goal.returns
returns c = kept_registers_are_saved
