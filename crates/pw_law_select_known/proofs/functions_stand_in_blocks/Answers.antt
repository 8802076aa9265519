use Rattle.pw_law_select_known.proofs.Blocks.{functions_stand_in_blocks}
use Rattle.pw_law_select_known.proofs.functions_stand_in_blocks.Goals as goal

pub returns : goal.returns
returns c = functions_stand_in_blocks
