use Rattle.std.proofs.Common.{◌≡◌, arith, refl}
use Rattle.std.specs.Prelude.{bit_and}
use Rattle.std.specs.Int.{bit_not, w64}
use Rattle.std.proofs.Math.Facts.{Fits-lt-pow}
use Rattle.pw_fix.proofs.Bits.{subtract_bits, all_words}
use Rattle.pw_fix.proofs.words.subtract_words.Goals as goal

pub returns : goal.returns
returns c =
    subtract_bits c.args.into.now c.args.from.now c.loop-k.into (λ k. Fits-lt-pow (c.type_inv.from k))
    (all_words (λ x y z. z ≡ bit_and x (bit_not w64 y)) c.args.into.now c.args.from.now c.loop-k.into refl c.requires c.loop-k.auto.into (λ k h. c.loop-k.invariant.done k (omega arith)))
