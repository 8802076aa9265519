use Rattle.std.proofs.Common.{◌∙◌, ◌&&◌, ℕ, List, not, ap}
use Rattle.std.proofs.lemmas.List.{take_all}
use Rattle.pw_live.specs.Liveness.{has}
use Rattle.pw_opt_dead.specs.Marks.{is_marked}
use Rattle.pw_opt_dead.proofs.Marking.{unmarked_more}
use Rattle.pw_opt_dead.proofs.marks.unmark_all.Goals as goal

pub loop-t-preserved : goal.loop-t-preserved
loop-t-preserved c = unmarked_more c.args.temps.now c.loop-t.t-index c.args.live.now c.loop-t.live c.unmark.new.live c.loop-t-test.true c.loop-t.invariant c.unmark.ensures.marks

pub returns-clause-marks : goal.returns-clause-marks
returns-clause-marks c = λ t.
    c.loop-t.invariant t ∙ ap (λ (ts : List ℕ). not (has t ts) && is_marked c.args.live.now t) (take_all c.loop-t.t-index c.args.temps.now c.loop-t-test.false)
