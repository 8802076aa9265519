use Rattle.std.proofs.Common.{refl, ap, ◌∙◌, rules}
use Rattle.pw_check_walk.proofs.CallLaws.{step_ok, step_err}
use Rattle.pw_check_labels.proofs.Steps.{from, from_within, ends}
use Rattle.pw_check_state.specs.StateViews.{view_state}
use Rattle.pw_check_rules.specs.Statements.{enter_switch, in_switch}
use Rattle.pw_check_choice.proofs.branches.in_switch.Goals as goal

pub returns-in_err-body : goal.returns-in_err-body
unfolding in_switch
returns-in_err-body g c =
    from_within _ _ refl (c.in_ok-enter_switch.ensures ∙ ap (λ k. enter_switch k (view_state c.args.state.now)) c.kind_in.ensures)
    (step_err _ c.boxed_stmt.ensures c.in_err-body.was (search rules))

pub returns : goal.returns
unfolding in_switch
returns g c =
    from_within _ _ refl (c.in_ok-enter_switch.ensures ∙ ap (λ k. enter_switch k (view_state c.args.state.now)) c.kind_in.ensures)
    (step_ok _ c.boxed_stmt.ensures c.in_ok-body.was
    (from _ c.leave_switch-switch.ensures.switch refl (from _ refl c.leave_switch-switch.ensures.state (ends refl refl))))
