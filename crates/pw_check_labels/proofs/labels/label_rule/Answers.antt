use Rattle.std.proofs.Common.{ap, ◌∙◌, rules}
use Rattle.pw_check_state.specs.StateViews.{view_state}
use Rattle.pw_tree.specs.Views.{view_expr, view_label}
use Rattle.pw_check_walk.proofs.CallLaws.{step_ok, step_err}
use Rattle.pw_check_rules.specs.Statements.{label_rule}
use Rattle.pw_check_labels.proofs.LabelLaws.{case_split}
use Rattle.pw_check_labels.proofs.Steps.{same}
use Rattle.pw_check_labels.proofs.labels.label_rule.Goals as goal

pub returns-in_err-inside_switch-in-Case : goal.returns-in_err-inside_switch-in-Case
returns-in_err-inside_switch-in-Case g c =
    let s = view_state c.args.state.now in
    same (ap (λ l. label_rule (view_label l) s) c.in-Case.is ∙ case_split c.in-Case.token (view_expr c.in-Case.value) s)
    (step_err _ c.inside_switch.ensures.follows c.in_err-inside_switch-in-Case.was (search rules))

pub returns-in_err-e-in-Case : goal.returns-in_err-e-in-Case
returns-in_err-e-in-Case g c =
    let s = view_state c.args.state.now in
    same (ap (λ l. label_rule (view_label l) s) c.in-Case.is ∙ case_split c.in-Case.token (view_expr c.in-Case.value) s)
    (step_ok _ c.inside_switch.ensures.follows c.in_ok-inside_switch-in-Case.was (step_err _ c.whole.ensures c.in_err-e-in-Case.was (search rules)))

pub returns-in_ok-e-in-Case : goal.returns-in_ok-e-in-Case
returns-in_ok-e-in-Case g c =
    let s = view_state c.args.state.now in
    same (ap (λ l. label_rule (view_label l) s) c.in-Case.is ∙ case_split c.in-Case.token (view_expr c.in-Case.value) s)
    (step_ok _ c.inside_switch.ensures.follows c.in_ok-inside_switch-in-Case.was
    (step_ok _ c.whole.ensures c.in_ok-e-in-Case.was (rw (c.first_token.ensures, c.deref.ensures) at c.case_rule.ensures)))

pub returns-in-Default : goal.returns-in-Default
unfolding label_rule
returns-in-Default g c = same (ap (λ l. label_rule (view_label l) (view_state c.args.state.now)) c.in-Default.is) c.default_rule.ensures.leads

pub returns-in-Name : goal.returns-in-Name
unfolding label_rule
returns-in-Name g c = same (ap (λ l. label_rule (view_label l) (view_state c.args.state.now)) c.in-Name.is) c.name_label_rule.ensures
