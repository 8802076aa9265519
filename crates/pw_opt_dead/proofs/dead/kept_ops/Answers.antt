use Rattle.std.proofs.Common.{◌∙◌, ℕ, get_or, ap}
use Rattle.pw_opt_dead.proofs.Walking.{act_last, walk_next}
use Rattle.pw_opt_dead.proofs.dead.kept_ops.Goals as goal

pub loop-op-preserved : goal.loop-op-preserved
loop-op-preserved c =
    let m = c.args.quiet.now.flow.now in
    let all = c.args.ops in
    let left = c.loop-op.left in
    let shorter = c.pop.new.self in
    let first = c.args.live.now in
    let live = c.loop-op.live in
    let now = c.step_back.new.live in
    let kept = c.loop-op.kept.items in
    let op = c.in-Some.op in
    let w = c.loop-op.invariant in
    let popped = c.in-Some.ensures in
    let acts = c.args.acts.now in
    let act = c.index-acts-len.result in
    let is = act_last m all left shorter first live kept op acts act w popped c.requires.acts (c.index-acts-len.is ∙ ap (λ (n : ℕ). get_or acts n act) c.len-in-Some.ensures) in
    walk_next m all left shorter first live now kept op w popped act is c.step_back.ensures.marks c.stays-stays.result c.stays-stays.ensures c.push_if.new.kept.items c.in_ok-push_if.ensures
