use Rattle.std.proofs.Common.{◌≡◌, ◌++◌, [], map}
use Rattle.std.specs.Option.{option_map_or}
use Rattle.pw_types.specs.Spines as spec
use Rattle.pw_typed.specs.Views.{view_expr}
use Rattle.pw_typed.specs.declared.tree.TForm.{size-TForm}
use Rattle.pw_typed.proofs.spines.spine.Given as goal

-- the left edge of the first operand is left
abbrev pub invariant-loop-first : goal.invariant-loop-first
invariant-loop-first l =
    map (λ node. view_expr node.now) l.nodes.items ++ option_map_or spec.spine_of (spec.first_of (view_expr l.node)) []
    ≡ spec.spine_of (view_expr l.e)

abbrev pub decreases-loop-first : goal.decreases-loop-first
decreases-loop-first l = size-TForm l.node.form
