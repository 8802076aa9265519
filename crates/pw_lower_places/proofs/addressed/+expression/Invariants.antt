use Rattle.std.proofs.Common.{◌≡◌, ◌≤◌, drop}
use Rattle.pw_lower.specs.Places.{addressed_in, addressed_in_all}
use Rattle.pw_typed.specs.Views.{view_expr, view_exprs}
use Rattle.pw_typed.specs.declared.tree.TForm.{size-TForm}
use Rattle.pw_lower_places.specs.Marks.{marked, addressed_first}
use Rattle.pw_lower_places.proofs.addressed.+expression.Given as goal

-- the first operands are left
abbrev pub invariant-mark_in-loop-first : goal.invariant-mark_in-loop-first
invariant-mark_in-loop-first l =
    (marked (addressed_first (view_expr l.node)) l.marks ≡ marked (addressed_in (view_expr l.e)) l.fn.marks)
    × (size-TForm l.node.form ≤ size-TForm l.e.form)

abbrev pub decreases-mark_in-loop-first : goal.decreases-mark_in-loop-first
decreases-mark_in-loop-first l = size-TForm l.node.form

abbrev pub invariant-mark_in_all-loop-e : goal.invariant-mark_in_all-loop-e
invariant-mark_in_all-loop-e l =
    marked (addressed_in_all (view_exprs (drop l.e-index l.all))) l.marks ≡ marked (addressed_in_all (view_exprs l.all)) l.fn.marks
