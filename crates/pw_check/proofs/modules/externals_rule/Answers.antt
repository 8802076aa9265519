use Rattle.std.proofs.Common.{◌∙◌, rules}
use Rattle.pw_check_state.specs.StateViews.{view_state}
use Rattle.pw_check_rules.specs.Modules.{external_rule, externals_rule}
use Rattle.pw_tree.specs.Views.{view_external, view_externals}
use Rattle.pw_check_walk.proofs.Turns.{turn_kept, turn_stopped, turns_over}
use Rattle.pw_check.proofs.ModuleLaws.{externals_more, externals_none}
use Rattle.pw_check.proofs.modules.externals_rule.Goals as goal

pub returns-in_err-external_rule : goal.returns-in_err-external_rule
returns-in_err-external_rule c =
    turn_stopped (λ xs u s. externals_rule (view_externals xs) s) (λ x rest u s. external_rule (view_external x) s) externals_more
    _ c.args.externals.now c.loop-external.external-index c.external-item.result tt (view_state c.loop-external.state)
    c.loop-external.invariant c.loop-external-test.true c.external-item.is c.external_rule.ensures c.in_err-external_rule.was (search rules)

pub loop-external-preserved : goal.loop-external-preserved
loop-external-preserved c =
    turn_kept (λ xs u s. externals_rule (view_externals xs) s) (λ x rest u s. external_rule (view_external x) s) externals_more
    c.args.externals.now c.loop-external.external-index c.external-item.result tt (view_state c.loop-external.state)
    c.loop-external.invariant c.loop-external-test.true c.external-item.is c.external_rule.ensures c.in_ok-external_rule.was

pub returns : goal.returns
returns c =
    record {
      made = turns_over (λ xs u s. externals_rule (view_externals xs) s) (λ x rest u s. external_rule (view_external x) s) externals_more
          c.args.externals.now c.loop-external.external-index tt (view_state c.loop-external.state) c.loop-external.invariant c.loop-external-test.false
          ∙ externals_none (view_state c.loop-external.state);
      told = tt;
    }
