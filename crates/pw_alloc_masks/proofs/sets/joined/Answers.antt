use Rattle.std.proofs.Common.{◌≡◌, ◌-◌, ◌+◌, ◌/◌, ◌%◌, arith, refl}
use Rattle.pw_alloc_masks.specs.Masks.{HasRegister}
use Rattle.pw_alloc_masks.specs.Sets.{HasPlace, HasAmong}
use Rattle.pw_alloc_masks.proofs.Joining.{left_none, left_less, left_all, halves}
use Rattle.pw_alloc_masks.proofs.sets.joined.Goals as goal

pub loop-low-init : goal.loop-low-init
loop-low-init c = record { least = c.requires.low; most = c.requires.high; holds = left_none (HasAmong c.args.masks.now c.args.from c.args.to) }

pub loop-low-preserved : goal.loop-low-preserved
loop-low-preserved c =
    let masks = c.args.masks.now in
    let low = c.loop-low.low in
    let high = c.loop-low.high in
    let least = c.loop-low.invariant.least in
    let most = c.loop-low.invariant.most in
    record {
      least = omega (arith, least);
      most = omega (arith, most);
      holds = λ k.
          left_less (HasRegister c.loop-low.found k) (HasRegister c.with_first-first.result k) (HasRegister c.with_last-found.result k) ((low % 2 ≡ 1) × HasPlace masks low k) ((high % 2 ≡ 1) × HasPlace masks (high - 1) k)
          (HasAmong masks ((low + 1) / 2) (high / 2) k) (HasAmong masks low high k) (HasAmong masks c.args.from c.args.to k) (c.with_first-first.ensures k) (c.with_last-found.ensures k)
          (halves c.args.points masks low high ((low + 1) / 2) (high / 2) k c.requires.sets least c.loop-low-test.true most refl refl) (c.loop-low.invariant.holds k);
    }

pub returns : goal.returns
returns c = λ k. left_all c.args.masks.now c.loop-low.low c.loop-low.high k (HasRegister c.loop-low.found k) (HasAmong c.args.masks.now c.args.from c.args.to k) c.loop-low-test.false (c.loop-low.invariant.holds k)
