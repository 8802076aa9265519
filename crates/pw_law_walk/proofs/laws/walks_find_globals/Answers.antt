use Rattle.pw_law_walk.proofs.Walking.{walk_finds}
use Rattle.pw_law_walk.proofs.laws.walks_find_globals.Goals as goal

pub returns : goal.returns
returns c = walk_finds
