use Rattle.std.proofs.Common.{rules, ap}
use Rattle.pw_check_state.specs.StateViews.{view_state}
use Rattle.pw_check_state.specs.Views.{view_operand}
use Rattle.pw_tree.specs.Trees.{NoPostfix, Select}
use Rattle.pw_tree.specs.Views.{view_word}
use Rattle.pw_check_walk.specs.Walks.{outcome}
use Rattle.pw_check_walk.proofs.CallLaws.{same_call, step_ok, step_err}
use Rattle.pw_check_primary.specs.Turns.{first_postfix}
use Rattle.pw_check_expr.proofs.chains.member.Goals as goal

pub returns-in-Dot : goal.returns-in-Dot
unfolding first_postfix
returns-in-Dot c =
    same_call _ _ _ _ _
    (ap (λ x. outcome (first_postfix (Select c.args.token x (view_word c.args.name.now) NoPostfix) (view_operand c.args.left) (view_state c.args.state.now))) c.in-Dot.is)
    c.dot_rule.ensures

pub returns-in_err-pointer-in-Arrow : goal.returns-in_err-pointer-in-Arrow
unfolding first_postfix
returns-in_err-pointer-in-Arrow c =
    same_call _ _ _ _ _
    (ap (λ x. outcome (first_postfix (Select c.args.token x (view_word c.args.name.now) NoPostfix) (view_operand c.args.left) (view_state c.args.state.now))) c.in-Arrow.is)
    (step_err _ c.value_rule.ensures c.in_err-pointer-in-Arrow.was (search rules))

pub returns-in_ok-pointer-in-Arrow : goal.returns-in_ok-pointer-in-Arrow
unfolding first_postfix
returns-in_ok-pointer-in-Arrow c =
    same_call _ _ _ _ _
    (ap (λ x. outcome (first_postfix (Select c.args.token x (view_word c.args.name.now) NoPostfix) (view_operand c.args.left) (view_state c.args.state.now))) c.in-Arrow.is)
    (step_ok _ c.value_rule.ensures c.in_ok-pointer-in-Arrow.was c.arrow_rule.ensures)
