use Rattle.std.proofs.Common.{[], ◌∷◌, ◌++◌, ap, rules, arith}
use Rattle.pw_typed.specs.Views.{view_case}
use Rattle.pw_check_rules.specs.States.{with_body}
use Rattle.pw_check_names.specs.EntityViews.{view_switch}
use Rattle.pw_check_state.specs.StateViews.{view_state}
use Rattle.pw_check_state.proofs.SwitchLemmas.{last_changed}
use Rattle.pw_check_state.proofs.state.State.add_case.Goals as goal

pub returns-in_ok-push : goal.returns-in_ok-push
unfolding view_state
returns-in_ok-push c =
    ap (λ ws. with_body (λ b. record b { switches = ws }) (view_state c.args.self.now))
    (last_changed
    view_switch (λ w. record w { cases = w.cases ++ view_case c.args.case ∷ [] }) c.args.self.now.body.switches.items _ c.in-Some.switch.now _
    (omega (arith, c.in-Some.ensures.variant.0 (search rules))) c.in-Some.ensures.value
    (ap (λ xs. record (view_switch c.in-Some.switch.now) { cases = xs }) c.in_ok-push.ensures.ok))
