use Rattle.std.proofs.Common.{◌≡◌, Some, None, rules, refl, ap, sym, ◌∙◌}
use Rattle.pw_check_state.specs.StateViews.{view_state}
use Rattle.pw_check_literals.specs.Characters.{character_constant, characters_of, one_character}
use Rattle.pw_typed.specs.Views.{view_form}
use Rattle.pw_types.specs.TypedTrees as T
use Rattle.pw_check_rules.specs.Kinds.{int_type}
use Rattle.pw_check_rules.specs.Leaves.{character_rule}
use Rattle.pw_check_rules.specs.Operands.{value_operand}
use Rattle.pw_check_walk.specs.Walks.{pure}
use Rattle.pw_check_leaves.proofs.PointLaws.{point_met, point_broken}
use Rattle.pw_check_leaves.proofs.TextLemmas.{character_point, none_told, one_met, one_value}
use Rattle.pw_check_leaves.proofs.primary.character_rule.Goals as goal

pub returns-in_default : goal.returns-in_default
unfolding character_rule
returns-in_default c =
    let t = c.args.word.now.token in
    let cs = characters_of c.args.word.now.text.items in
    let none : one_character cs ≡ None =
    ap (λ x. one_character (characters_of x)) (sym c.as_slice.ensures.value) ∙ sym c.in_ok-value.ensures ∙ (cc) in
    point_broken (character_point t cs) (pure (value_operand (T.Node t int_type (T.Number (character_constant cs))))) (view_state c.args.state.now)
    (none_told t cs none) (search rules)

pub returns : goal.returns
unfolding character_rule view_form
returns c =
    let t = c.args.word.now.token in
    let cs = characters_of c.args.word.now.text.items in
    let v = c.in-Some.value in
    let one : one_character cs ≡ Some v =
    ap (λ x. one_character (characters_of x)) (sym c.as_slice.ensures.value) ∙ sym c.in_ok-value.ensures ∙ c.in-Some.is in
    point_met (character_point t cs) (value_operand (T.Node t int_type (T.Number (character_constant cs)))) (view_state c.args.state.now)
    (one_met t cs v one) refl
    (c.in_ok-value_operand.ensures
    ∙ ap (λ q. value_operand (T.Node t q (T.Number v))) c.int_type.ensures
    ∙ ap (λ n. value_operand (T.Node t int_type (T.Number n))) (one_value cs v one))
