use Rattle.std.proofs.Common.{◌≡◌, ◌+◌, ◌&&◌, arith, rules, drop, refl, ◌∙◌}
use Rattle.pw_check_walk.proofs.Turns.{turn_kept, turn_stopped, turns_over}
use Rattle.pw_tree.specs.Views.{view_parameters}
use Rattle.pw_check_state.specs.StateViews.{view_state}
use Rattle.pw_check_rules.specs.Leaves.{is_nil, is_last}
use Rattle.pw_check_declarator.specs.Views.{view_parameter_list}
use Rattle.pw_check_declarator.proofs.Splits.{over_parameters, next_parameter, parameter_split, no_parameter, last_at}
use Rattle.pw_check_declarator.proofs.parameters.parameters.Goals as goal

pub loop-index-preserved : goal.loop-index-preserved
loop-index-preserved g c =
    let sole : c.is_sole-sole.result ≡ (is_nil (view_parameter_list c.loop-index.found) && is_last (view_parameters (drop (c.loop-index.index + 1) c.args.list.now))) =
    rw (c.is_sole-sole.ensures, c.deref.ensures.value, last_at) refl in
    turn_kept over_parameters next_parameter (λ x rest. parameter_split x (view_parameters rest))
    c.args.list.now c.loop-index.index c.index-list-index.result (view_parameter_list c.loop-index.found) (view_state c.loop-index.state)
    c.loop-index.invariant (omega arith) c.index-list-index.is (rw sole at c.parameter.ensures) c.in_ok-found.was

pub returns-in_err-found : goal.returns-in_err-found
returns-in_err-found g c =
    let sole : c.is_sole-sole.result ≡ (is_nil (view_parameter_list c.loop-index.found) && is_last (view_parameters (drop (c.loop-index.index + 1) c.args.list.now))) =
    rw (c.is_sole-sole.ensures, c.deref.ensures.value, last_at) refl in
    turn_stopped over_parameters next_parameter (λ x rest. parameter_split x (view_parameters rest))
    _ c.args.list.now c.loop-index.index c.index-list-index.result (view_parameter_list c.loop-index.found) (view_state c.loop-index.state)
    c.loop-index.invariant (omega arith) c.index-list-index.is (rw sole at c.parameter.ensures) c.in_err-found.was (search rules)

pub returns : goal.returns
returns g c =
    record {
      made = turns_over over_parameters next_parameter (λ x rest. parameter_split x (view_parameters rest))
          c.args.list.now c.loop-index.index (view_parameter_list c.loop-index.found) (view_state c.loop-index.state) c.loop-index.invariant (omega arith)
          ∙ no_parameter _ _;
      told = tt;
    }
