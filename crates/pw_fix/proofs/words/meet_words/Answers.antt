use Rattle.std.proofs.Common.{◌≡◌, arith, refl}
use Rattle.std.specs.Prelude.{bit_and}
use Rattle.std.proofs.Math.Facts.{Fits-lt-pow}
use Rattle.pw_fix.proofs.Bits.{common_bit, no_common_bit, all_words}
use Rattle.pw_fix.proofs.words.meet_words.Goals as goal

pub returns-then-a-k-ne0-clause-some : goal.returns-then-a-k-ne0-clause-some
returns-then-a-k-ne0-clause-some c = common_bit c.args.a.now c.args.b.now c.loop-k.k (Fits-lt-pow (c.type_inv.a c.loop-k.k)) c.if-a-k-ne0.true

pub returns-clause-none : goal.returns-clause-none
returns-clause-none c = no_common_bit c.args.a.now c.args.b.now
    (all_words (λ x y z. bit_and x y ≡ 0) c.args.a.now c.args.b.now c.args.a.now refl c.requires refl (λ k h. c.loop-k.invariant k (omega arith)))
