use Rattle.std.proofs.Common.{◌≡◌, ◌<◌, All, map, drop, length}
use Rattle.pw_lower.specs.Codes.{lowered_as}
use Rattle.pw_lower.specs.Expressions.{lower, arguments}
use Rattle.pw_typed.specs.Views.{view_expr, view_exprs}
use Rattle.pw_typed.specs.declared.tree.TForm.{size-TForm}
use Rattle.pw_lower_forms.specs.Homes.{view_home}
use Rattle.pw_lexpr.specs.Finish.{finish_node, finish_all, with_temps}
use Rattle.pw_lexpr.proofs.expressions.+lower.Given as goal

-- the nodes that are left are still to be finished
abbrev pub invariant-lower-loop-node : goal.invariant-lower-loop-node
invariant-lower-loop-node l =
    (finish_node (view_home l.home) (view_expr l.e) (finish_all (view_home l.home) (map (λ node. view_expr node.now) l.below.items) (lowered_as l.first l.code))
    ≡ lower (view_home l.home) (view_expr l.e) l.fn.code)
    × All (λ node. size-TForm node.now.form < size-TForm l.e.form) l.below.items

abbrev pub decreases-lower-loop-node : goal.decreases-lower-loop-node
decreases-lower-loop-node l = length l.below.items

-- the arguments that are left are still to be lowered
abbrev pub invariant-arguments-loop-arg : goal.invariant-arguments-loop-arg
invariant-arguments-loop-arg l =
    with_temps l.temps (arguments (view_home l.home) (view_exprs (drop l.arg-index l.args)) l.code)
    ≡ arguments (view_home l.home) (view_exprs l.args) l.fn.code
