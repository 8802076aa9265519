use Rattle.std.proofs.Common.{◌<◌, ◌∙◌, ℕ, get_or, refl, sym, subst}
use Rattle.pw_live_spans.proofs.Steps.{item_at}
use Rattle.pw_alloc_masks.specs.Sets.{HasAt}
use Rattle.pw_alloc_taken.proofs.Masking.{put_none, put_more, put_all}
use Rattle.pw_alloc_taken.proofs.occupied.put_behind.Goals as goal

pub loop-place-init : goal.loop-place-init
loop-place-init c = record { sets = c.requires.sets; points = refl; each = put_none c.args.definitions.now c.args.r (HasAt c.args.made.now) }

pub put-requires-clause-point : goal.put-requires-clause-point
put-requires-clause-point c = subst (λ (n : ℕ). get_or c.args.definitions.now c.loop-place.place 0 < n) (sym c.loop-place.invariant.points) (c.requires.points c.loop-place.place 0 c.loop-place-test.true)

pub loop-place-preserved : goal.loop-place-preserved
loop-place-preserved c =
    let ds = c.args.definitions.now in
    let place = c.loop-place.place in
    record {
      sets = c.put.ensures.sets;
      points = c.put.ensures.points ∙ c.loop-place.invariant.points;
      each = put_more ds place (get_or ds place 0) c.args.r (HasAt c.put.new.self) (HasAt c.loop-place.made) (HasAt c.args.made.now) c.loop-place-test.true (item_at ds place 0 c.loop-place-test.true) c.put.ensures.each c.loop-place.invariant.each;
    }

pub returns-clause-each : goal.returns-clause-each
returns-clause-each c = put_all c.args.definitions.now c.loop-place.place c.args.r (HasAt c.loop-place.made) (HasAt c.args.made.now) c.loop-place-test.false c.loop-place.invariant.each
