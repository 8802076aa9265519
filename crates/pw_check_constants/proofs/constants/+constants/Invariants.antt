use Rattle.std.proofs.Common.{◌≡◌, ◌≤◌}
use Rattle.pw_typed.specs.Views.{view_expr}
use Rattle.pw_typed.specs.declared.tree.TForm.{size-TForm}
use Rattle.pw_check_rules.specs.Constants.{constant_of}
use Rattle.pw_check_constants.specs.Frames.{unwound}
use Rattle.pw_check_constants.proofs.constants.+constants.Given as goal

-- the operators that were passed make of what is left what the whole is
abbrev pub invariant-constant_of-loop-frames : goal.invariant-constant_of-loop-frames
invariant-constant_of-loop-frames l =
    (unwound l.frames.items (constant_of (view_expr l.node)) ≡ constant_of (view_expr l.e))
    × (size-TForm l.node.form ≤ size-TForm l.initial.node.form)

abbrev pub decreases-constant_of-loop-frames : goal.decreases-constant_of-loop-frames
decreases-constant_of-loop-frames l = size-TForm l.node.form
