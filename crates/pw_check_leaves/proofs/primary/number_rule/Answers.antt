use Rattle.std.proofs.Common.{◌≡◌, Some, unwrap_or, refl, ap, ◌∙◌}
use Rattle.pw_check_state.specs.StateViews.{view_state}
use Rattle.pw_check_literals.specs.Integers.{integer_constant, integer_type, integer_value}
use Rattle.pw_typed.specs.Views.{view_form}
use Rattle.pw_types.specs.declared.kind.IntKind.TheVariants as K
use Rattle.pw_types.specs.TypeTrees.{Int}
use Rattle.pw_types.specs.TypedTrees as T
use Rattle.pw_types.specs.Views.{view_type}
use Rattle.pw_check_rules.specs.Kinds.{plain}
use Rattle.pw_check_rules.specs.Leaves.{number_rule}
use Rattle.pw_check_rules.specs.Operands.{value_operand}
use Rattle.pw_check_leaves.proofs.PointLaws.{point_met}
use Rattle.pw_check_leaves.proofs.TextLemmas.{number_met, number_point, number_said}
use Rattle.pw_check_leaves.proofs.primary.number_rule.Goals as goal

pub returns : goal.returns
unfolding number_rule view_form view_type
returns c =
    let t = c.args.word.now.token in
    let text = c.args.word.now.text.items in
    let n = c.in-Some.constant in
    let one : integer_constant text ≡ Some n = cc in
    point_met (number_point t text) (value_operand (T.Node t (plain (Int (unwrap_or (integer_type text) K.Int))) (T.Number (integer_value text))))
    (view_state c.args.state.now) (number_met t text n one) refl
    (c.in_ok-value_operand.ensures
    ∙ ap (λ q. value_operand (T.Node t q (T.Number n.value))) c.plain-ty.ensures
    ∙ number_said t text n one)
