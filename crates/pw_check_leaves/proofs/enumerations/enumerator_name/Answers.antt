use Rattle.pw_check_state.specs.StateViews.{view_state}
use Rattle.pw_tree.specs.Views.{view_word}
use Rattle.pw_check_walk.proofs.FindingLaws.{point_end}
use Rattle.pw_check_rules.specs.Leaves.{enumerator_name, name_point}
use Rattle.pw_check_walk.specs.Walks.{bind}
use Rattle.pw_check_leaves.proofs.enumerations.enumerator_name.Goals as goal

pub returns : goal.returns
unfolding enumerator_name bind
returns c =
    let s = view_state c.args.state.now in
    point_end (name_point s (view_word c.args.word.now)) s c.name_point.result.least c.end.result c.name_point.ensures c.end.ensures
