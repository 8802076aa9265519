use Rattle.std.proofs.Common.{sym, ◌∙◌}
use Rattle.pw_typed.specs.Views.{view_expr}
use Rattle.pw_check_constants.proofs.NullLemmas.{null_inner}
use Rattle.pw_check_constants.proofs.nulls.is_null_pointer.Goals as goal

pub loop-inner-preserved : goal.loop-inner-preserved
loop-inner-preserved c =
    null_inner (view_expr c.loop-inner.node.now) (view_expr c.in-Some.inner.now) c.in-Some.ensures.found
    (sym c.in_ok-is_zero_constant.ensures ∙ c.if-branch.false)
    ∙ c.loop-inner.invariant
