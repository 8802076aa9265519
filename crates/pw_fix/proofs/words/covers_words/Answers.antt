use Rattle.std.proofs.Common.{◌≡◌, arith, sym, refl, inr}
use Rattle.std.specs.Prelude.{bit_or}
use Rattle.std.proofs.Math.Facts.{Fits-lt-pow}
use Rattle.pw_fix.proofs.Bits.{union_bits, added_bit, all_words}
use Rattle.pw_fix.proofs.words.covers_words.Goals as goal

pub returns-then-b-k-clause-some : goal.returns-then-b-k-clause-some
returns-then-b-k-clause-some c = added_bit c.args.b.now c.args.a.now c.loop-k.k (Fits-lt-pow (c.type_inv.b c.loop-k.k)) (Fits-lt-pow (c.type_inv.a c.loop-k.k)) c.if-b-k.true

pub returns-clause-all : goal.returns-clause-all
returns-clause-all c = λ i h. (union_bits c.args.b.now c.args.a.now c.args.b.now
    (all_words (λ x y z. z ≡ bit_or x y) c.args.b.now c.args.a.now c.args.b.now refl (sym c.requires) refl (λ k h. sym (c.loop-k.invariant k (omega arith)))) i).1 (inr h)
