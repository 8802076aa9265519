use Rattle.std.proofs.Common.{arith, rules, ◌∙◌}
use Rattle.pw_check_walk.proofs.Turns.{turn_kept, turn_stopped, turns_over}
use Rattle.pw_tree.specs.Views.{view_member_declarators}
use Rattle.pw_check_records.specs.Views.{view_member_list}
use Rattle.pw_check_state.specs.PhraseViews.{view_specified}
use Rattle.pw_check_state.specs.StateViews.{view_state}
use Rattle.pw_check_specifier_lists.proofs.Splits.{over_declarators, next_member, member_split, no_member_declarator}
use Rattle.pw_check_specifier_lists.proofs.records.member_declarators.Goals as goal

pub loop-next-preserved : goal.loop-next-preserved
loop-next-preserved g c =
    turn_kept (over_declarators (view_specified c.args.specified.now)) (next_member (view_specified c.args.specified.now)) (λ x rest. member_split x (view_member_declarators rest) (view_specified c.args.specified.now))
    c.args.declarators.now c.loop-next.next-index c.next-item.result (view_member_list c.loop-next.found) (view_state c.loop-next.state)
    c.loop-next.invariant (omega arith) c.next-item.is c.member.ensures c.in_ok-found.was

pub returns-in_err-found : goal.returns-in_err-found
returns-in_err-found g c =
    turn_stopped (over_declarators (view_specified c.args.specified.now)) (next_member (view_specified c.args.specified.now)) (λ x rest. member_split x (view_member_declarators rest) (view_specified c.args.specified.now))
    _ c.args.declarators.now c.loop-next.next-index c.next-item.result (view_member_list c.loop-next.found) (view_state c.loop-next.state)
    c.loop-next.invariant (omega arith) c.next-item.is c.member.ensures c.in_err-found.was (search rules)

pub returns : goal.returns
returns g c =
    record {
      made = turns_over (over_declarators (view_specified c.args.specified.now)) (next_member (view_specified c.args.specified.now)) (λ x rest. member_split x (view_member_declarators rest) (view_specified c.args.specified.now)) c.args.declarators.now c.loop-next.next-index (view_member_list c.loop-next.found) (view_state c.loop-next.state) c.loop-next.invariant (omega arith) ∙ no_member_declarator _ _ _;
      told = tt;
    }
