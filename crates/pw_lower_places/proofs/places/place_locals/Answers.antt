use Rattle.std.proofs.Common.{◌++◌, length, sym, ap, ◌∙◌, append-nil, rules}
use Rattle.pw_lower_places.proofs.PairLoops.{pairs_ended}
use Rattle.pw_lower_places.proofs.PlaceLoops.{placed_done}
use Rattle.pw_lower_places.proofs.places.place_locals.Goals as goal

pub returns : goal.returns
returns c =
    let n = pairs_ended _ c.loop-local.local-iterator c.next.new.self c.next.result c.args.locals.now c.args.addressed.now c.loop-local.yielded c.loop-local.yielded_by c.in-None.is c.next.ensures.steps (first_of (cc, search rules)) (first_of (cc, search rules)) in
    let d = placed_done (length c.loop-local.yielded) c.args.params c.loop-local.number c.loop-local.temp c.loop-local.slot c.args.locals.now c.args.addressed.now n in
    sym (append-nil c.loop-local.places.items) ∙ ap (λ left. c.loop-local.places.items ++ left) (sym d) ∙ c.loop-local.invariant
