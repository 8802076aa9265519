use Rattle.std.proofs.Common.{Some, refl, ap, rules, arith}
use Rattle.pw_check_rules.specs.States.{with_body}
use Rattle.pw_check_names.specs.EntityViews.{view_switch}
use Rattle.pw_check_state.specs.StateViews.{view_state}
use Rattle.pw_check_state.proofs.SwitchLemmas.{last_changed}
use Rattle.pw_check_state.proofs.state.State.set_default.Goals as goal

pub returns-in-Some : goal.returns-in-Some
unfolding view_state
returns-in-Some c =
    ap (λ ws. with_body (λ b. record b { switches = ws }) (view_state c.args.self.now))
    (last_changed
    view_switch (λ w. record w { default = Some c.args.label }) c.args.self.now.body.switches.items _ c.in-Some.switch.now _
    (omega (arith, c.in-Some.ensures.variant.0 (search rules))) c.in-Some.ensures.value refl)
