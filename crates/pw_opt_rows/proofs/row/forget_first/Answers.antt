use Rattle.std.proofs.Common.{◌≡◌, ◌∙◌, ◌<◌, ◌+◌, true, false, length, get_or, sym, ap, subst, arith}
use Rattle.std.proofs.lemmas.List.{get_or_default}
use Rattle.pw_opt_rules.specs.declared.flat.Flat.TheVariants.{Bottom, Many}
use Rattle.pw_opt_rules.specs.Flat.{is_one}
use Rattle.pw_opt_rules.specs.Rows.{known}
use Rattle.pw_opt_rows.proofs.Forgetting.{ForgetsBelow, forgets_none, forgets_set, forgets_stay}
use Rattle.pw_opt_rows.proofs.row.forget_first.Goals as goal
use Rattle.pw_opt_rows.proofs.row.forget_first.Goals.{then-is_one, else-is_one}

pub loop-place-init : goal.loop-place-init
loop-place-init c = forgets_none c.args.of c.args.flats.now

pub loop-place-preserved : goal.loop-place-preserved
loop-place-preserved c =
    let of = c.args.of in
    let old = c.args.flats.now in
    let flats = c.loop-place.flats in
    let place = c.loop-place.place in
    let inv = c.loop-place.invariant in
    let low : place < length flats = let test = c.loop-place-test.true in let long = c.loop-place.auto.flats in let few = c.requires in omega (arith, test, long, few) in
    let here : get_or flats place Bottom ≡ known flats place = get_or_default flats place Bottom Many low in
    let test : c.is_one.result ≡ is_one of (known flats place) = c.is_one.ensures ∙ ap (is_one of) here in
    elim c.if-is_one.branch [
      | then-is_one w ↦ subst (ForgetsBelow of old (place + 1)) (sym w.flats-is) (forgets_set of old flats place low (sym test ∙ w.if-is_one.true) inv)
      | else-is_one w ↦ subst (ForgetsBelow of old (place + 1)) (sym w.flats-is) (forgets_stay of old flats place (sym test ∙ w.if-is_one.false) inv)
    ]

pub returns-clause-gone : goal.returns-clause-gone
returns-clause-gone c = λ j lt. c.loop-place.invariant.done j (let done = c.loop-place-test.false in omega (arith, lt, done))
