use Rattle.std.proofs.Common.{ap, sym, ◌∙◌, rules}
use Rattle.std.proofs.Common.{◌+◌, drop}
use Rattle.std.proofs.lemmas.List.{at_drop_all}
use Rattle.pw_check_state.specs.StateViews.{view_state}
use Rattle.pw_check_state.proofs.PlaceLemmas.{map_push}
use Rattle.pw_check_walk.specs.Walks.{outcome}
use Rattle.pw_check_walk.proofs.CallLaws.{made_by, same_call}
use Rattle.pw_check_labels.proofs.Gathering.{item_made, item_stopped}
use Rattle.pw_check_rules.specs.Statements.{alternative_rule}
use Rattle.pw_tree.specs.Views.{view_else_ifs, view_expr, view_otherwise, view_stmt}
use Rattle.pw_check_choice.proofs.BranchLaws.{arms_more}
use Rattle.pw_check_choice.specs.Parts.{alternative_after, arm_rule, with_arm}
use Rattle.pw_check_choice.specs.Views.{view_arm, view_arm_list}
use Rattle.pw_check_choice.proofs.branches.alternative_rule.Goals as goal

pub returns-in_err-arm : goal.returns-in_err-arm
unfolding alternative_after
returns-in_err-arm g c =
    let o = view_otherwise c.args.otherwise.now in
    item_stopped (λ es. alternative_rule (view_else_ifs es o)) (λ e. arm_rule e.token (view_expr e.condition) (view_stmt e.chosen)) with_arm (arms_more o)
    _ c.args.else_ifs.now c.loop-next.next-index (view_arm_list c.loop-next.arms.items) _ c.next-item.result
    c.loop-next.invariant c.loop-next-test.true c.next-item.is c.arm_rule.ensures c.in_err-arm.was (search rules)

pub loop-next-preserved : goal.loop-next-preserved
unfolding alternative_after
loop-next-preserved g c =
    let o = view_otherwise c.args.otherwise.now in
    item_made (λ es. alternative_rule (view_else_ifs es o)) (λ e. arm_rule e.token (view_expr e.condition) (view_stmt e.chosen)) with_arm (arms_more o)
    c.args.else_ifs.now c.loop-next.next-index (view_arm_list c.loop-next.arms.items) _ _ c.next-item.result _
    c.loop-next.invariant c.loop-next-test.true c.next-item.is (made_by c.arm_rule.ensures c.in_ok-arm.was)
    ∙ ap (λ xs. outcome (alternative_after xs (view_else_ifs (drop (c.loop-next.next-index + 1) c.args.else_ifs.now) o) (view_state c.arm_rule.new.state)))
    (sym (map_push view_arm c.loop-next.arms.items c.in_ok-arm.arm) ∙ ap view_arm_list (sym c.in_ok-push.ensures.items))

pub returns : goal.returns
returns g c =
    let o = view_otherwise c.args.otherwise.now in
    same_call _ _ (alternative_after (view_arm_list c.loop-next.arms.items) o (view_state c.loop-next.state)) _ _
    (c.loop-next.invariant
    ∙ at_drop_all (λ es. outcome (alternative_after (view_arm_list c.loop-next.arms.items) (view_else_ifs es o) (view_state c.loop-next.state))) c.args.else_ifs.now c.loop-next.next-index
    c.loop-next-test.false)
    c.otherwise_rule.ensures
