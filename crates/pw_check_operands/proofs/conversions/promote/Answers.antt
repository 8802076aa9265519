use Rattle.std.proofs.Common.{ap, sym, ◌∙◌}
use Rattle.pw_check_state.specs.Views.{view_node}
use Rattle.pw_check_rules.specs.Kinds.{is_integral}
use Rattle.pw_typed.specs.declared.tree.TExpr.{TExpr}
use Rattle.pw_types.specs.Views.{view_type}
use Rattle.pw_check_operands.proofs.CastLaws.{promote_other}
use Rattle.pw_check_operands.proofs.conversions.promote.Goals as goal

pub returns-then-not-is_integral : goal.returns-then-not-is_integral
returns-then-not-is_integral c =
    sym (promote_other (view_node c.args.e)
    (ap (λ (x : TExpr). is_integral (view_type x.ty.ty)) (sym c.deref.ensures)
    ∙ sym c.is_integral.ensures
    ∙ c.if-not-is_integral.true))
