use Rattle.std.proofs.Common.{◌≡◌, OnOk, ap, subst, ◌∙◌, map}
use Rattle.pw_check_state.specs.Changes.{entered_body}
use Rattle.pw_check_state.specs.PhraseViews.{view_bindings, view_parameters}
use Rattle.pw_check_state.specs.StateViews.{view_state}
use Rattle.pw_check_rules.specs.Functions.{parameter_local}
use Rattle.pw_typed.specs.Views.{view_locals}
use Rattle.pw_check_functions.proofs.functions.begin_body.Goals as goal

pub returns : goal.returns
returns c =
    let shown : view_locals c.in_ok-locals.locals.items ≡ map parameter_local (view_parameters c.args.bindings.now.parameters.items) =
    c.in_ok-locals.ensures ∙ ap (λ ps. map parameter_local (view_parameters ps)) c.deref.ensures.value in
    subst (λ x. OnOk c.enter_body.result (view_state c.enter_body.new.self ≡ x))
    (λ j. entered_body (c.in_ok-result_type.ensures j) (shown j) (view_bindings c.args.bindings.now) (c.in_ok-names.ensures j) (view_state c.args.state.now))
    c.enter_body.ensures
