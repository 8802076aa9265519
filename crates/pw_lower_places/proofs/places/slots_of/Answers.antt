use Rattle.std.proofs.Common.{◌++◌, length, sym, ap, ◌∙◌, append-nil, rules}
use Rattle.pw_lower_places.proofs.PairLoops.{pairs_ended}
use Rattle.pw_lower_places.proofs.PlaceLoops.{slots_done}
use Rattle.pw_lower_places.proofs.places.slots_of.Goals as goal

pub returns : goal.returns
returns c =
    let n = pairs_ended _ c.loop-local.local-iterator c.next.new.self c.next.result c.args.locals.now c.args.places.now c.loop-local.yielded c.loop-local.yielded_by c.in-None.is c.next.ensures.steps (first_of (cc, search rules)) (first_of (cc, search rules)) in
    let d = slots_done c.args.types.now (length c.loop-local.yielded) c.args.locals.now c.args.places.now n in
    sym (append-nil c.loop-local.slots) ∙ ap (λ left. c.loop-local.slots ++ left) (sym d) ∙ c.loop-local.invariant
