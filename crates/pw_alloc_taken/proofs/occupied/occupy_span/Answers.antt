use Rattle.std.proofs.Common.{◌<◌, ◌∙◌, ℕ, length, arith, rules, refl}
use Rattle.std.specs.Prelude.{slice_index}
use Rattle.std.proofs.lemmas.List.{length-set}
use Rattle.pw_alloc_masks.specs.Masks.{HasRegister}
use Rattle.pw_alloc_taken.proofs.Masking.{over_none, over_more, over_end}
use Rattle.pw_alloc_taken.proofs.occupied.occupy_span.Goals as goal

pub loop-p-init : goal.loop-p-init
loop-p-init c = record { long = refl; low = omega arith; high = omega arith; each = over_none c.args.span.0 c.args.r (λ (q k : ℕ). HasRegister (slice_index c.args.occupied.now q) k) }

pub bounds-occupied-p : goal.bounds-occupied-p
bounds-occupied-p c =
    let lt = c.requires.points c.loop-p.p c.loop-p.invariant.low c.loop-p-test.true in
    let long = c.loop-p.invariant.long in
    omega (arith, lt, long)

pub offset_bounds-occupied-p : goal.offset_bounds-occupied-p
offset_bounds-occupied-p c =
    let lt = c.requires.points c.loop-p.p c.loop-p.invariant.low c.loop-p-test.true in
    let long = c.loop-p.invariant.long in
    let here : c.loop-p.p < length c.loop-p.occupied = omega (arith, lt, long) in
    first_of (omega arith, search rules, grind arith)

pub loop-p-preserved : goal.loop-p-preserved
loop-p-preserved c =
    let p = c.loop-p.p in
    let cur = c.loop-p.occupied in
    let low = c.loop-p.invariant.low in
    let long = c.loop-p.invariant.long in
    let lt = c.requires.points p low c.loop-p-test.true in
    let here : p < length cur = omega (arith, lt, long) in
    let mask = c.with_register-mask.result in
    record {
      long = length-set cur p mask ∙ long;
      low = omega (arith, low);
      high = omega (arith, c.loop-p-test.true);
      each = over_more cur _ c.args.span.0 p c.args.r mask (λ (q k : ℕ). HasRegister (slice_index c.args.occupied.now q) k) low here refl c.with_register-mask.ensures c.loop-p.invariant.each;
    }

pub returns-clause-each : goal.returns-clause-each
returns-clause-each c =
    over_end c.args.span.0 c.loop-p.p c.args.span.1 c.args.r (λ (q k : ℕ). HasRegister (slice_index c.loop-p.occupied q) k) (λ (q k : ℕ). HasRegister (slice_index c.args.occupied.now q) k)
    c.loop-p.invariant.high c.loop-p-test.false c.loop-p.invariant.each
