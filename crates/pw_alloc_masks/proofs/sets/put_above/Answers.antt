use Rattle.std.proofs.Common.{◌/◌, ◌∙◌, arith, refl}
use Rattle.pw_alloc_masks.proofs.Joining.{joined_up, joined_all, behind_same}
use Rattle.pw_alloc_masks.proofs.sets.put_above.Goals as goal

pub loop-place-init : goal.loop-place-init
loop-place-init c = record { high = c.requires.place; long = c.requires.long; missing = c.requires.missing; points = λ i k _. (λ h. h, λ h. h) }

pub put_at-requires-clause-place : goal.put_at-requires-clause-place
put_at-requires-clause-place c = let high = c.loop-place.invariant.high in let long = c.loop-place.invariant.long in omega (arith, high, long)

pub loop-place-preserved : goal.loop-place-preserved
loop-place-preserved c =
    let place = c.loop-place.place in
    let high = c.loop-place.invariant.high in
    record {
      high = omega (arith, high);
      long = c.put_at.ensures.length ∙ c.loop-place.invariant.long;
      missing = joined_up c.loop-place.masks c.put_at.new.masks c.args.points place (place / 2) c.args.r refl c.put_at.ensures.each c.loop-place.invariant.missing;
      points = λ i k past.
          let now = behind_same c.loop-place.masks c.put_at.new.masks c.args.points place c.args.r high c.put_at.ensures.each i k past in
          let before = c.loop-place.invariant.points i k past in
          (λ h. before.0 (now.0 h), λ h. now.1 (before.1 h));
    }

pub returns-clause-each : goal.returns-clause-each
returns-clause-each c = joined_all c.args.points c.loop-place.masks c.loop-place.place c.args.r (let end = c.loop-place-test.false in omega (arith, end)) c.loop-place.invariant.missing
