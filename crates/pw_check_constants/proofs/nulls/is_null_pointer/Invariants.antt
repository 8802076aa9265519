use Rattle.std.proofs.Common.{◌≡◌}
use Rattle.pw_typed.specs.Views.{view_expr}
use Rattle.pw_typed.specs.declared.tree.TForm.{size-TForm}
use Rattle.pw_check_rules.specs.Constants.{is_null_pointer}
use Rattle.pw_check_constants.proofs.nulls.is_null_pointer.Given as goal

-- the whole is a null pointer where what is left is one
abbrev pub invariant-loop-inner : goal.invariant-loop-inner
invariant-loop-inner l = is_null_pointer (view_expr l.node) ≡ is_null_pointer (view_expr l.e)

abbrev pub decreases-loop-inner : goal.decreases-loop-inner
decreases-loop-inner l = size-TForm l.node.form
