-- What the state shows where one of its parts is another.
use Rattle.std.proofs.Common.{◌≡◌, ℕ, List, length, ap, ◌∙◌}
use Rattle.pw_types.specs.TypeTrees.{QType}
use Rattle.pw_types.specs.TypedTrees.{LocalValue}
use Rattle.pw_check_rules.specs.Derivations.{Bindings}
use Rattle.pw_check_rules.specs.Functions.{declared_again}
use Rattle.pw_check_rules.specs.States as states
use Rattle.pw_check_rules.specs.States.{no_body, one_deeper, with_body, with_scopes}
use Rattle.pw_check_state.specs.Changes.{entered_body}
use Rattle.pw_check_state.specs.declared.state.State.{State}
use Rattle.pw_check_state.specs.declared.state.BodyState.{BodyState}
use Rattle.pw_check_state.specs.StateViews.{view_state, view_body_state}

-- the body is another, and a scope is entered in which the names of the parameter list are declared
pub entered_by : (q : QType) (locals : List LocalValue) (bindings : Bindings) (names : List (List ℕ)) (s mid left : State) (b : BodyState)
    → view_state mid ≡ with_body (λ _. view_body_state b) (view_state s)
    → view_state left ≡ with_scopes (declared_again bindings) (one_deeper (view_state mid))
    → view_body_state b ≡ record no_body { result = q; locals = locals; names = names; labels = length names }
    → view_state left ≡ entered_body q locals bindings names (view_state s)
entered_by q locals bindings names s mid left b put entered is =
    entered
    ∙ ap (λ (t : states.State). with_scopes (declared_again bindings) (one_deeper t)) put
    ∙ ap (λ (w : states.BodyState). with_body (λ _. w) (with_scopes (declared_again bindings) (one_deeper (view_state s)))) is
