use Rattle.std.proofs.Common.{arith, rules, ◌∙◌}
use Rattle.pw_check_walk.proofs.Turns.{turn_kept, turn_stopped, turns_over}
use Rattle.pw_tree.specs.Views.{view_enumerators}
use Rattle.pw_check_state.specs.StateViews.{view_state}
use Rattle.pw_check_specifier_lists.proofs.Splits.{over_enumerators, next_enumerator, enumerator_split, no_enumerator}
use Rattle.pw_check_specifier_lists.proofs.enumerations.enumerators.Goals as goal

pub loop-next-preserved : goal.loop-next-preserved
loop-next-preserved g c =
    turn_kept over_enumerators next_enumerator (λ x rest. enumerator_split x (view_enumerators rest))
    c.args.list.now c.loop-next.next-index c.next-item.result c.loop-next.value (view_state c.loop-next.state)
    c.loop-next.invariant (omega arith) c.next-item.is c.enumerator.ensures c.in_ok-value.was

pub returns-in_err-value : goal.returns-in_err-value
returns-in_err-value g c =
    turn_stopped over_enumerators next_enumerator (λ x rest. enumerator_split x (view_enumerators rest))
    _ c.args.list.now c.loop-next.next-index c.next-item.result c.loop-next.value (view_state c.loop-next.state)
    c.loop-next.invariant (omega arith) c.next-item.is c.enumerator.ensures c.in_err-value.was (search rules)

pub returns : goal.returns
returns g c =
    record {
      made = turns_over over_enumerators next_enumerator (λ x rest. enumerator_split x (view_enumerators rest)) c.args.list.now c.loop-next.next-index c.loop-next.value (view_state c.loop-next.state) c.loop-next.invariant (omega arith) ∙ no_enumerator _ _;
      told = tt;
    }
