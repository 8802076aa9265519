use Rattle.std.proofs.Common.{rules, arith, ◌∙◌}
use Rattle.pw_check_state.specs.StateViews.{view_state}
use Rattle.pw_check_state.specs.Views.{view_operand}
use Rattle.pw_check_walk.proofs.Turns.{turn_kept, turn_stopped, turns_over}
use Rattle.pw_check_expr.proofs.Splits.{of_postfix, along_postfixes, postfixes_split, no_postfixes}
use Rattle.pw_check_expr.proofs.chains.postfixes.Goals as goal

pub loop-next-preserved : goal.loop-next-preserved
loop-next-preserved g c =
    turn_kept along_postfixes of_postfix postfixes_split
    c.args.rest.now c.loop-next.next-index c.next-item.result (view_operand c.loop-next.left) (view_state c.loop-next.state)
    c.loop-next.invariant (omega arith) c.next-item.is c.postfix.ensures c.in_ok-left.was

pub returns-in_err-left : goal.returns-in_err-left
returns-in_err-left g c =
    turn_stopped along_postfixes of_postfix postfixes_split
    _ c.args.rest.now c.loop-next.next-index c.next-item.result (view_operand c.loop-next.left) (view_state c.loop-next.state)
    c.loop-next.invariant (omega arith) c.next-item.is c.postfix.ensures c.in_err-left.was (search rules)

pub returns : goal.returns
returns g c =
    record {
      made = turns_over along_postfixes of_postfix postfixes_split c.args.rest.now c.loop-next.next-index (view_operand c.loop-next.left) (view_state c.loop-next.state)
          c.loop-next.invariant (omega arith)
          ∙ no_postfixes _ _;
      told = tt;
    }
