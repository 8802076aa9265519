use Rattle.std.proofs.Common.{refl}
use Rattle.pw_check_state.specs.StateViews.{view_state}
use Rattle.pw_tree.specs.Views.{view_decls}
use Rattle.pw_check_labels.proofs.Steps.{from}
use Rattle.pw_check_heads.specs.Parts.{head_meets, head_point}
use Rattle.pw_check_heads.specs.Views.{view_head}
use Rattle.pw_check_walk.proofs.FindingLaws.{point_end}
use Rattle.pw_check_heads.proofs.heads.head_meets.Goals as goal

pub returns : goal.returns
unfolding head_meets
returns c =
    from _ refl refl
    (point_end (head_point (view_state c.args.state.now) (view_head c.args.head.now) (view_decls c.args.declarations.now)) (view_state c.args.state.now) _ _ c.in_ok-head_point.ensures c.end.ensures)
