use Rattle.std.proofs.Common.{refl}
use Rattle.pw_check_state.specs.StateViews.{view_state}
use Rattle.pw_check_rules.specs.Leaves.{enumerating_rule}
use Rattle.pw_check_leaves.proofs.PointLaws.{done}
use Rattle.pw_check_leaves.proofs.enumerations.enumerating_rule.Goals as goal

pub returns-in-None : goal.returns-in-None
unfolding enumerating_rule
returns-in-None c = rw c.in-None.is (done tt (view_state c.args.state.now) refl refl refl)
