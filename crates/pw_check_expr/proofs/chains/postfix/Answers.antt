use Rattle.std.proofs.Common.{ap, sym, ◌∙◌}
use Rattle.pw_check_state.specs.StateViews.{view_state}
use Rattle.pw_check_state.specs.Views.{view_operand}
use Rattle.pw_tree.specs.Trees.{NoPostfix}
use Rattle.pw_tree.specs.Views.{view_arguments, view_expr, view_postfix}
use Rattle.pw_check_walk.specs.Walks.{outcome}
use Rattle.pw_check_walk.proofs.CallLaws.{same_call}
use Rattle.pw_check_rules.specs.Operators.{step_rule}
use Rattle.pw_check_primary.specs.Turns.{first_postfix, one_call}
use Rattle.pw_check_expr.proofs.chains.postfix.Goals as goal

pub returns-in-Index : goal.returns-in-Index
unfolding first_postfix view_expr
returns-in-Index g c =
    same_call _ _ _ _ _
    (ap (λ p. outcome (first_postfix (view_postfix p NoPostfix) (view_operand c.args.left) (view_state c.args.state.now))) c.in-Index.is)
    c.index.ensures

pub returns-in-Call : goal.returns-in-Call
unfolding first_postfix
returns-in-Call g c =
    same_call _ _ _ _ _
    (ap (λ p. outcome (first_postfix (view_postfix p NoPostfix) (view_operand c.args.left) (view_state c.args.state.now))) c.in-Call.is
    ∙ ap (λ p. outcome (first_postfix p (view_operand c.args.left) (view_state c.args.state.now))) (c.expressions_show_their_lists.ensures.call c.in-Call.token c.in-Call.arguments NoPostfix)
    ∙ ap (λ es. outcome (one_call c.in-Call.token (view_arguments es) (view_operand c.args.left) (view_state c.args.state.now))) (sym c.deref.ensures.value))
    c.call.ensures

pub returns-in-Member : goal.returns-in-Member
unfolding view_expr
returns-in-Member g c =
    same_call _ _ _ _ _
    (ap (λ p. outcome (first_postfix (view_postfix p NoPostfix) (view_operand c.args.left) (view_state c.args.state.now))) c.in-Member.is)
    c.member.ensures

pub returns-in-Step : goal.returns-in-Step
unfolding first_postfix view_expr
returns-in-Step g c =
    same_call _ _ _ _ _
    (ap (λ p. outcome (first_postfix (view_postfix p NoPostfix) (view_operand c.args.left) (view_state c.args.state.now))) c.in-Step.is
    ∙ ap (λ op. outcome (step_rule c.in-Step.token op (view_operand c.args.left) (view_state c.args.state.now))) (sym c.step_behind.ensures))
    c.step_rule.ensures
