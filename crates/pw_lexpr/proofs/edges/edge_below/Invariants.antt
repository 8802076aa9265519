use Rattle.std.proofs.Common.{◌≡◌, ◌<◌, ◌≤◌, All, map}
use Rattle.pw_lower.specs.declared.code.Code.{Code}
use Rattle.pw_lower.specs.Expressions.{Home, lower}
use Rattle.pw_typed.specs.Views.{view_expr}
use Rattle.pw_typed.specs.declared.tree.TForm.{size-TForm}
use Rattle.pw_lexpr.specs.Finish.{lower_first, first_part, finish_node, finish_all}
use Rattle.pw_lexpr.proofs.edges.edge_below.Given as goal

-- what is evaluated first of the last node is left
abbrev pub invariant-loop-first : goal.invariant-loop-first
invariant-loop-first l =
    ((h : Home) (c : Code)
    → finish_node h (view_expr l.e) (finish_all h (map (λ node. view_expr node.now) l.nodes.items) (lower_first h (first_part (view_expr l.node)) c))
    ≡ lower h (view_expr l.e) c)
    × All (λ node. size-TForm node.now.form < size-TForm l.e.form) l.nodes.items
    × (size-TForm l.node.form ≤ size-TForm l.e.form)

abbrev pub decreases-loop-first : goal.decreases-loop-first
decreases-loop-first l = size-TForm l.node.form
