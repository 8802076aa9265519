use Rattle.std.proofs.Common.{◌∙◌, ◌&&◌, ℕ, Bool, List, not, ap}
use Rattle.pw_live.specs.Liveness.{has}
use Rattle.pw_opt_dead.specs.Marks.{is_marked}
use Rattle.pw_opt_dead.proofs.Marking.{front_is}
use Rattle.pw_opt_dead.proofs.marks.unmark_front.Goals as goal

pub returns-clause-marks : goal.returns-clause-marks
returns-clause-marks c = λ f are t.
    c.unmark_all.ensures.marks t
    ∙ ap (λ (b : Bool). not b && is_marked c.args.live.now t) (ap (λ (xs : List ℕ). has t xs) c.deref.ensures.value ∙ front_is f c.args.fronts.now c.args.block c.collect_live.new.live.items are c.requires.block c.in_ok-collect_live.ensures t)
