use Rattle.std.proofs.Common.{◌≡◌, true, sym, ap, ◌∙◌, reverse}
use Rattle.pw_cpp_condition.specs.Machine.{binds, reduced}
use Rattle.pw_cpp_condition.proofs.Stack.{reduced_more}
use Rattle.pw_cpp_condition.proofs.frame.reduce.Goals as goal

pub loop-frame-preserved : goal.loop-frame-preserved
loop-frame-preserved c =
    let frame = c.in-Some.frame in
    let new = c.pop.new.self in
    let b : binds c.args.at frame ≡ true = cc in
    c.loop-frame.invariant
    ∙ reduced_more c.args.at c.loop-frame.operand frame c.loop-frame.frames new c.in-Some.ensures b
    ∙ ap (λ v. reduced c.args.at v (reverse new)) (sym c.applied-operand.ensures)
