use Rattle.std.proofs.Common.{◌≡◌, IfOk, false, length, replicate, subst, arith}
use Rattle.std.proofs.lemmas.Grind.{common_steps}
use Rattle.pw_typed.specs.Views.{view_stmt, view_locals}
use Rattle.pw_lower.specs.Places.{addressed_in_statement}
use Rattle.pw_lower_places.specs.Marks.{marked}
use Rattle.pw_lower_places.specs.Placing.{placed}
use Rattle.pw_lower_places.proofs.PlacingLaws.{placed_marked}
use Rattle.pw_lower_places.proofs.places.places_of.Goals as goal

pub returns : goal.returns
returns c =
    let f = c.args.f.now in
    let r = c.place_locals.result in
    let taken = addressed_in_statement (view_stmt f.body) in
    let e : c.deref-2.result.now ≡ marked taken (replicate (length f.locals.items) false) = first_of (cc, grind (arith, common_steps)) in
    subst (λ a. IfOk r (λ v. v.items ≡ a)) (placed_marked taken f.params f.locals.items)
    (subst (λ m. IfOk r (λ v. v.items ≡ placed m f.params 0 f.params 0 (view_locals f.locals.items))) e
    (subst (λ l. IfOk r (λ v. v.items ≡ placed c.deref-2.result.now f.params 0 f.params 0 (view_locals l))) c.deref.ensures.value c.place_locals.ensures))
