use Rattle.std.proofs.Common.{◌∙◌, ◌||◌, ◌<◌, ℕ, List, length, get_or, ap, arith}
use Rattle.std.proofs.lemmas.List.{take_all}
use Rattle.pw_live.specs.Liveness.{has}
use Rattle.pw_opt_dead.specs.Marks.{is_marked}
use Rattle.pw_opt_dead.proofs.Marking.{marked_more}
use Rattle.pw_opt_dead.proofs.marks.mark_all.Goals as goal

pub loop-t-preserved : goal.loop-t-preserved
loop-t-preserved c =
    let temps = c.args.temps.now in
    let i = c.loop-t.t-index in
    let now = c.loop-t.live in
    let lt = c.loop-t-test.true in
    let low : get_or temps i 0 < length now = let in_old = c.requires i 0 lt in let long = c.loop-t.auto.live in omega (arith, in_old, long) in
    marked_more temps i c.args.live.now now lt low c.loop-t.invariant

pub returns-clause-marks : goal.returns-clause-marks
returns-clause-marks c = λ t.
    c.loop-t.invariant t ∙ ap (λ (ts : List ℕ). has t ts || is_marked c.args.live.now t) (take_all c.loop-t.t-index c.args.temps.now c.loop-t-test.false)
