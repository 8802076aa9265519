use Rattle.std.proofs.Common.{◌≡◌, ◌<◌, length, arith, rules}
use Rattle.std.proofs.lemmas.List.{length_push}
use Rattle.pw_typed.specs.Views.{view_local}
use Rattle.pw_lower_places.specs.Placing.{parameter_stored}
use Rattle.pw_lower_places.proofs.PairLoops.{pair_at}
use Rattle.pw_lower_places.proofs.PlaceLoops.{stored_on}
use Rattle.pw_lower_places.proofs.places.store_parameters.Goals as goal

pub loop-local-preserved : goal.loop-local-preserved
loop-local-preserved c =
    let locals = c.args.locals.now in
    let places = c.args.places.now in
    let xs = c.loop-local.yielded in
    let local = c.in-Some.local.now in
    let place = c.in-Some.place.now in
    let k : c.loop-local.number < c.args.params = omega arith in
    let f : c.store_parameter.new.code ≡ parameter_stored (view_local local) place c.loop-local.number c.loop-local.code = first_of (search rules, cc) in
    let z = pair_at _ c.loop-local.local-iterator c.next.new.self c.next.result locals places xs (c.in-Some.local, c.in-Some.place) c.loop-local.yielded_by c.in-Some.is c.next.ensures.steps (first_of (cc, search rules)) (first_of (cc, search rules)) in
    (stored_on locals places local place (length xs) _ c.loop-local.number c.args.params c.loop-local.code _ _ z.0 z.1 z.2 z.3 k (length_push xs (c.in-Some.local, c.in-Some.place)) f c.loop-local.invariant.0, omega arith)
