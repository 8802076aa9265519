use Rattle.std.proofs.Common.{rules, ◌≡◌, arith, get_or, refl}
use Rattle.std.proofs.lemmas.Grind.{common_steps}
use Rattle.std.specs.Prelude.{bit_or}
use Rattle.std.proofs.Math.Facts.{Fits-lt-pow}
use Rattle.pw_fix.proofs.Bits.{union_bits, added_bit, all_words}
use Rattle.pw_fix.proofs.words.union_words.Goals as goal
use Rattle.pw_fix.proofs.words.union_words.Goals.{then-joined-word, else-joined-word}

pub returns-clause-holds : goal.returns-clause-holds
returns-clause-holds c =
    union_bits c.args.into.now c.args.from.now c.loop-k.into
    (all_words (λ x y z. z ≡ bit_or x y) c.args.into.now c.args.from.now c.loop-k.into refl c.requires c.loop-k.auto.into (λ k h. c.loop-k.invariant.done k (omega arith)))

pub loop-k-preserved : goal.loop-k-preserved
loop-k-preserved c =
    let k = c.loop-k.k in
    let inv = c.loop-k.invariant in
    let old : get_or c.loop-k.into k 0 ≡ get_or c.args.into.now k 0 = inv.rest k (omega arith) in
    record {
      done = λ j h. elim c.if-joined-word.branch [ then-joined-word w ↦ grind (arith, common_steps, inv.done j, inv.rest j) | else-joined-word w ↦ grind (arith, common_steps, inv.done j, inv.rest j) ];
      rest = λ j h. elim c.if-joined-word.branch [ then-joined-word w ↦ grind (arith, common_steps, inv.rest j) | else-joined-word w ↦ grind (arith, common_steps, inv.rest j) ];
      changed = elim c.if-joined-word.branch [
        | then-joined-word w ↦ rw w.changed-is (added_bit c.args.into.now c.args.from.now k (inv.fits k) (Fits-lt-pow (c.type_inv.from k)) (rw old at w.if-joined-word.true))
        | else-joined-word w ↦ rw w.changed-is inv.changed
      ];
      unchanged = elim c.if-joined-word.branch [ then-joined-word w ↦ search rules | else-joined-word w ↦ rw (w.changed-is, w.into-is) inv.unchanged ];
      fits = inv.fits;
    }
