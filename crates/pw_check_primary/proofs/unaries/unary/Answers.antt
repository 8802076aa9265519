use Rattle.std.proofs.Common.{ap}
use Rattle.pw_check_state.specs.StateViews.{view_state}
use Rattle.pw_tree.specs.Trees.{Unary}
use Rattle.pw_tree.specs.Views.{view_expr}
use Rattle.pw_check_walk.specs.Walks.{outcome}
use Rattle.pw_check_walk.proofs.CallLaws.{same_call}
use Rattle.pw_check_rules.specs.Phrases.{expr_rule}
use Rattle.pw_check_primary.proofs.Forms.{sign_form}
use Rattle.pw_check_primary.proofs.unaries.unary.Goals as goal

pub returns-in-Increment : goal.returns-in-Increment
unfolding expr_rule
returns-in-Increment g c =
    same_call _ _ _ _ _
    (ap (λ op. outcome (expr_rule (Unary c.args.token op (view_expr c.args.operand.now)) (view_state c.args.state.now))) c.in-Increment.is)
    c.step_before.ensures

pub returns-in-Decrement : goal.returns-in-Decrement
unfolding expr_rule
returns-in-Decrement g c =
    same_call _ _ _ _ _
    (ap (λ op. outcome (expr_rule (Unary c.args.token op (view_expr c.args.operand.now)) (view_state c.args.state.now))) c.in-Decrement.is)
    c.step_before-in-Decrement.ensures

pub returns-in-Plus : goal.returns-in-Plus
returns-in-Plus g c =
    same_call _ _ _ _ _
    (ap outcome (sign_form c.args.token c.args.operator (view_expr c.args.operand.now) (view_state c.args.state.now) c.in-Plus.is))
    c.sign.ensures
