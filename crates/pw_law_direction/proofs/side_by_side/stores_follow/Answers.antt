use Rattle.pw_law_direction.proofs.StoresByName.{stores-follow}
use Rattle.pw_law_direction.proofs.side_by_side.stores_follow.Goals as goal

pub returns : goal.returns
returns c = stores-follow
