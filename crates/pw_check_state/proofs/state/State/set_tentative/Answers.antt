use Rattle.std.proofs.Common.{true, ap, sym, ◌∙◌}
use Rattle.pw_check_rules.specs.States.{with_types}
use Rattle.pw_check_state.specs.StateViews.{view_state}
use Rattle.pw_check_state.proofs.LinkedLemmas.{change_is}
use Rattle.pw_check_state.proofs.state.State.set_tentative.Goals as goal

pub returns : goal.returns
unfolding view_state
returns c =
    ap (λ ls. with_types (λ t. record t { linked = ls }) (view_state c.args.self.now)) c.set_tentative.ensures
    ∙ sym (change_is c.args.place (λ l. record l { tentative = true }) (view_state c.args.self.now))
