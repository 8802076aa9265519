use Rattle.std.proofs.Common.{rules, arith, ap, sym, map, drop, ◌+◌, ◌∙◌}
use Rattle.pw_check_state.specs.StateViews.{view_state}
use Rattle.pw_typed.specs.Views.{view_expr}
use Rattle.pw_check_walk.specs.Walks.{outcome}
use Rattle.pw_check_walk.proofs.CallLaws.{step_err}
use Rattle.pw_check_walk.proofs.Turns.{turn_made, turn_stopped, turns_over}
use Rattle.pw_check_primary.specs.Turns.{view_values}
use Rattle.pw_check_expr.proofs.Splits.{of_argument, along_arguments, all_arguments, argument_made, arguments_split, no_arguments}
use Rattle.pw_check_expr.proofs.chains.arguments.Goals as goal

pub loop-e-init : goal.loop-e-init
loop-e-init g c =
    ap outcome (all_arguments c.args.exprs.now (view_state c.args.state.now))
    ∙ ap (λ vs. outcome (along_arguments c.args.exprs.now (map view_expr vs) (view_state c.args.state.now))) (sym c.new-values.ensures.items)

pub loop-e-preserved : goal.loop-e-preserved
loop-e-preserved g c =
    c.loop-e.invariant
    ∙ turn_made along_arguments of_argument arguments_split
    c.args.exprs.now c.loop-e.e-index c.e-item.result (map view_expr c.loop-e.values.items) (map view_expr c.push.new.self.items)
    (view_state c.loop-e.state) (view_state c.whole_rule.new.state) (omega arith) c.e-item.is
    (argument_made c.e-item.result (drop (c.loop-e.e-index + 1) c.args.exprs.now) c.loop-e.values.items c.push.new.self.items c.in_ok-value.value (view_state c.loop-e.state) (view_state c.whole_rule.new.state)
    c.whole_rule.ensures c.in_ok-value.was (cc (c.in_ok-push.ensures.items, c.into_inner.ensures)))

pub returns-in_err-value : goal.returns-in_err-value
returns-in_err-value g c =
    turn_stopped along_arguments of_argument arguments_split {seen = view_values} {first = c.from_residual.result} {fault = c.in_err-value.field-0.0} {mid = view_state c.whole_rule.new.state}
    _ c.args.exprs.now c.loop-e.e-index c.e-item.result (map view_expr c.loop-e.values.items) (view_state c.loop-e.state)
    c.loop-e.invariant (omega arith) c.e-item.is
    (step_err _ c.whole_rule.ensures c.in_err-value.was (search rules)) (search rules) (search rules)

pub returns : goal.returns
returns g c =
    record {
      made = turns_over along_arguments of_argument arguments_split
          c.args.exprs.now c.loop-e.e-index (map view_expr c.loop-e.values.items) (view_state c.loop-e.state) c.loop-e.invariant (omega arith)
          ∙ no_arguments _ _;
      told = tt;
    }
