use Rattle.std.proofs.Common.{◌∙◌, arith, refl, inl, inr}
use Rattle.pw_webs.proofs.RegionLaws.{both_put, both_end}
use Rattle.pw_webs.proofs.region.add_common.Goals as goal

pub loop-place-init : goal.loop-place-init
loop-place-init c = record { same = refl; holds = λ f. (λ h. inl h, λ h. elim h [ inl k ↦ k | inr w ↦ let lt = w.0 in absurd (omega (arith, lt)) ]) }

pub loop-place-preserved : goal.loop-place-preserved
loop-place-preserved c = record {
  same = c.add_both.ensures.length ∙ c.loop-place.invariant.same;
  holds = both_put c.args.one.now c.args.other.now c.loop-place.place c.args.set.now c.loop-place.set c.add_both.new.set c.loop-place.invariant.holds c.add_both.ensures.holds;
}

pub returns-clause-holds : goal.returns-clause-holds
returns-clause-holds c = both_end c.args.one.now c.args.other.now c.loop-place.place c.args.set.now c.loop-place.set c.loop-place-test.false c.loop-place.invariant.holds
