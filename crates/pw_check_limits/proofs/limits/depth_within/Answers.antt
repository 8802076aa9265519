use Rattle.pw_types.specs.Records.{depth_of}
use Rattle.pw_types.specs.Views.{view_type}
use Rattle.pw_check_limits.proofs.limits.depth_within.Goals as goal

pub returns : goal.returns
returns c = c.keeps.ensures (depth_of c.args.types.now (view_type c.args.ty.now)) c.depth.ensures
