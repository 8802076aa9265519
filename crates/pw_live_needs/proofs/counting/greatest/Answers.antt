use Rattle.std.proofs.Common.{◌∙◌, ◌+◌, ℕ, max, drop, get_or, ap, sym}
use Rattle.pw_live_needs.specs.Counts.{greatest}
use Rattle.pw_live_needs.proofs.Counted.{greatest_next, greatest_end, here}
use Rattle.pw_live_needs.proofs.counting.greatest.Goals as goal

pub loop-place-preserved : goal.loop-place-preserved
loop-place-preserved c =
    let ns = c.args.counts.now in
    let i = c.loop-place.place in
    ap (λ (m : ℕ). max m (greatest (drop (i + 1) ns))) c.max-most.ensures ∙ sym (greatest_next c.loop-place.most ns i (get_or ns i 0) c.loop-place-test.true (here ns i 0 c.loop-place-test.true)) ∙ c.loop-place.invariant

pub returns : goal.returns
returns c = sym (greatest_end c.loop-place.most c.args.counts.now c.loop-place.place c.loop-place-test.false) ∙ c.loop-place.invariant
