use Rattle.pw_check_walk.proofs.BindLaws.{bind_made, bind_stopped}
use Rattle.pw_check_walk.proofs.walk_laws.walks_follow.Goals as goal

pub returns-clause-made : goal.returns-clause-made
returns-clause-made g c = bind_made

pub returns-clause-stopped : goal.returns-clause-stopped
returns-clause-stopped g c = bind_stopped
