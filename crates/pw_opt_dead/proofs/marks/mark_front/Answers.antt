use Rattle.std.proofs.Common.{◌∙◌, ◌||◌, ◌<◌, ℕ, Bool, List, All, length, sym, ap, subst}
use Rattle.pw_live.specs.Liveness.{has}
use Rattle.pw_opt_dead.specs.Marks.{is_marked}
use Rattle.pw_opt_dead.proofs.Marking.{front_is, front_within}
use Rattle.pw_opt_dead.proofs.marks.mark_front.Goals as goal

pub mark_all-requires : goal.mark_all-requires
mark_all-requires c =
    let n = length c.args.live.now in
    subst (λ (xs : List ℕ). All (λ t. t < n) xs) (sym c.deref.ensures.value) (front_within c.args.fronts.now c.args.block n c.collect_live.new.live.items c.requires.temps c.in_ok-collect_live.ensures)

pub returns-clause-marks : goal.returns-clause-marks
returns-clause-marks c = λ f are t.
    c.mark_all.ensures.marks t
    ∙ ap (λ (b : Bool). b || is_marked c.args.live.now t) (ap (λ (xs : List ℕ). has t xs) c.deref.ensures.value ∙ front_is f c.args.fronts.now c.args.block c.collect_live.new.live.items are c.requires.block c.in_ok-collect_live.ensures t)
