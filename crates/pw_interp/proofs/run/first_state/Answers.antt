use Rattle.std.proofs.Common.{[]}
use Rattle.pw_interp_calls.specs.WorldViews.{view_world}
use Rattle.pw_interp.proofs.RunLaws.{start_shows}
use Rattle.pw_interp.proofs.run.first_state.Goals as goal

pub returns : goal.returns
returns c = start_shows (view_world c.args.world.now) _ _ [] c.in_ok-objects.ensures c.frame.ensures
