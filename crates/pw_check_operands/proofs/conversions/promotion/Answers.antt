use Rattle.std.proofs.Common.{ap, sym, ◌∙◌}
use Rattle.pw_types.specs.Conversions.{promoted}
use Rattle.pw_types.specs.TypeTrees as tree
use Rattle.pw_types.specs.Views.{view_type}
use Rattle.pw_typed.specs.Views.{view_expr}
use Rattle.pw_check_operands.proofs.CastLaws.{promotion_int}
use Rattle.pw_check_operands.proofs.conversions.promotion.Goals as goal

pub returns-then-is_integral : goal.returns-then-is_integral
unfolding view_type
returns-then-is_integral c =
    ap tree.Int (c.promote.ensures ∙ ap promoted c.kind_in.ensures)
    ∙ sym (promotion_int (view_expr c.args.e.now) (sym c.is_integral.ensures ∙ c.if-is_integral.true))
