use Rattle.std.proofs.Common.{◌≡◌, ◌+◌, ◌≤◌, drop}
use Rattle.pw_value.specs.Caps.{capped}
use Rattle.pw_types.specs.Rooms as spec
use Rattle.pw_typed.specs.Views as view
use Rattle.pw_typed.specs.declared.tree.TForm.{size-TForm}
use Rattle.pw_typed.proofs.NodeLemmas.{first_nodes}
use Rattle.pw_typed.proofs.rooms.+nodes.Given as goal

-- the first operands are left, and lie in what there was
abbrev pub invariant-expr_nodes-loop-first : goal.invariant-expr_nodes-loop-first
invariant-expr_nodes-loop-first l =
    (capped (l.nodes + first_nodes (view.view_expr l.node)) ≡ capped (spec.expr_nodes (view.view_expr l.e)))
    × (l.nodes ≡ capped l.nodes)
    × (size-TForm l.node.form ≤ size-TForm l.initial.node.form)

abbrev pub decreases-expr_nodes-loop-first : goal.decreases-expr_nodes-loop-first
decreases-expr_nodes-loop-first l = size-TForm l.node.form

-- what is left is still to be counted
abbrev pub invariant-nodes_of_all-loop-e : goal.invariant-nodes_of_all-loop-e
invariant-nodes_of_all-loop-e l =
    (capped (l.nodes + spec.nodes_of_all (view.view_exprs (drop l.e-index l.all))) ≡ capped (spec.nodes_of_all (view.view_exprs l.all)))
    × (l.nodes ≡ capped l.nodes)
