use Rattle.pw_law_placed.proofs.Blocks.{blocks_follow}
use Rattle.pw_law_placed.proofs.blocks_follow.Goals as goal

pub returns : goal.returns
returns c = blocks_follow
