use Rattle.std.proofs.Common.{◌∙◌, ℕ, get_or, arith, refl}
use Rattle.std.specs.Prelude.{slice_index}
use Rattle.std.proofs.lemmas.List.Elements.{Contains-get_or}
use Rattle.pw_alloc_masks.specs.Masks.{HasRegister}
use Rattle.pw_live_spans.proofs.Steps.{item_at}
use Rattle.pw_alloc_taken.proofs.Masking.{spread_none, spread_more, spread_all}
use Rattle.pw_alloc_taken.proofs.occupied.occupy.Goals as goal

pub loop-place-init : goal.loop-place-init
loop-place-init c = record { long = refl; each = spread_none c.args.spans.now c.args.r (λ (q k : ℕ). HasRegister (slice_index c.args.occupied.now q) k) }

pub occupy_span-requires-clause-points : goal.occupy_span-requires-clause-points
occupy_span-requires-clause-points c = λ p low high.
    let spans = c.args.spans.now in
    let place = c.loop-place.place in
    let lt = c.requires.points p (get_or spans place (0, 0), Contains-get_or spans place (0, 0) c.loop-place-test.true, (low, high)) in
    let long = c.loop-place.invariant.long in
    omega (arith, lt, long)

pub loop-place-preserved : goal.loop-place-preserved
loop-place-preserved c =
    let spans = c.args.spans.now in
    let place = c.loop-place.place in
    record {
      long = c.occupy_span.ensures.length ∙ c.loop-place.invariant.long;
      each = spread_more spans place (get_or spans place (0, 0)) c.args.r (λ (q k : ℕ). HasRegister (slice_index c.occupy_span.new.occupied q) k) (λ (q k : ℕ). HasRegister (slice_index c.loop-place.occupied q) k)
          (λ (q k : ℕ). HasRegister (slice_index c.args.occupied.now q) k) c.loop-place-test.true (item_at spans place (0, 0) c.loop-place-test.true) c.occupy_span.ensures.each c.loop-place.invariant.each;
    }

pub returns-clause-each : goal.returns-clause-each
returns-clause-each c =
    spread_all c.args.spans.now c.loop-place.place c.args.r (λ (q k : ℕ). HasRegister (slice_index c.loop-place.occupied q) k) (λ (q k : ℕ). HasRegister (slice_index c.args.occupied.now q) k) c.loop-place-test.false c.loop-place.invariant.each
