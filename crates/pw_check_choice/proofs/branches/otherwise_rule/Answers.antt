use Rattle.std.proofs.Common.{refl, ap, ◌∙◌, rules}
use Rattle.pw_check_walk.proofs.CallLaws.{step_ok, step_err}
use Rattle.pw_check_labels.proofs.Steps.{ends, same}
use Rattle.pw_check_choice.proofs.BranchLaws.{none_after, otherwise_after}
use Rattle.pw_check_choice.specs.Parts.{alternative_after}
use Rattle.pw_check_choice.specs.Views.{view_arm_list}
use Rattle.pw_check_state.specs.StateViews.{view_state}
use Rattle.pw_tree.specs.Views.{view_otherwise, view_stmt}
use Rattle.pw_check_choice.proofs.branches.otherwise_rule.Goals as goal

pub returns-in_err-body-in-Some : goal.returns-in_err-body-in-Some
returns-in_err-body-in-Some g c =
    let arms = view_arm_list c.args.arms.items in
    let s = view_state c.args.state.now in
    same (ap (λ o. alternative_after arms (view_otherwise o) s) c.in-Some.is ∙ otherwise_after arms (view_stmt c.in-Some.last.value) s)
    (step_err _ (rw c.deref.ensures at c.boxed_stmt.ensures) c.in_err-body-in-Some.was (search rules))

pub returns-in_ok-body-in-Some : goal.returns-in_ok-body-in-Some
returns-in_ok-body-in-Some g c =
    let arms = view_arm_list c.args.arms.items in
    let s = view_state c.args.state.now in
    same (ap (λ o. alternative_after arms (view_otherwise o) s) c.in-Some.is ∙ otherwise_after arms (view_stmt c.in-Some.last.value) s)
    (step_ok _ (rw c.deref.ensures at c.boxed_stmt.ensures) c.in_ok-body-in-Some.was (ends refl refl))

pub returns-in-None : goal.returns-in-None
returns-in-None g c =
    let arms = view_arm_list c.args.arms.items in
    let s = view_state c.args.state.now in
    same (ap (λ o. alternative_after arms (view_otherwise o) s) c.in-None.is ∙ none_after arms s) (ends refl refl)
