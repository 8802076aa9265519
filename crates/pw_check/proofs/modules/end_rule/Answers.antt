use Rattle.std.proofs.Common.{[], ◌∷◌, sym, ◌∙◌, map, rules}
use Rattle.pw_check_state.specs.EntityViews.{view_linked}
use Rattle.pw_check_state.specs.StateViews.{view_state}
use Rattle.pw_check_walk.proofs.FindingLaws.{end_err, end_ok, no_want}
use Rattle.pw_check_rules.specs.Modules.{end_cause, end_rule}
use Rattle.pw_check.proofs.ModuleLaws.{all_ended, end_met, end_told}
use Rattle.pw_check.proofs.modules.end_rule.Goals as goal

pub returns-in_err-end-clause-follows : goal.returns-in_err-end-clause-follows
returns-in_err-end-clause-follows c =
    end_told c.args.linked.now (end_rule (map view_linked c.args.linked.now) (view_state c.args.state.now)) (view_state c.args.state.now)
    c.loop-next.next-index c.next-item.result c.loop-next.invariant c.loop-next-test.true c.next-item.is c.end_cause.ensures c.end.ensures c.in_err-end.was (search rules)

pub returns-in_err-end-clause-no_memory : goal.returns-in_err-end-clause-no_memory
returns-in_err-end-clause-no_memory c =
    no_want (end_cause (view_state c.args.state.now) (view_linked c.next-item.result) ∷ [])
    (sym c.end_cause.ensures ∙ end_err c.end_cause.result.least _ (sym c.end.ensures ∙ c.in_err-end.was)) (search rules)

pub loop-next-preserved : goal.loop-next-preserved
loop-next-preserved c =
    end_met c.args.linked.now _ (view_state c.args.state.now) c.loop-next.next-index c.next-item.result
    c.loop-next.invariant c.loop-next-test.true c.next-item.is
    (sym c.end_cause.ensures ∙ end_ok c.end_cause.result.least _ (sym c.end.ensures ∙ c.in_ok-end.was))

pub returns-clause-follows : goal.returns-clause-follows
returns-clause-follows c =
    record {
      made = all_ended c.args.linked.now _ (view_state c.args.state.now) c.loop-next.next-index c.loop-next.invariant c.loop-next-test.false;
      told = tt;
    }
