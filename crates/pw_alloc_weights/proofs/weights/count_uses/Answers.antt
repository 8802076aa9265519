use Rattle.std.proofs.Common.{◌<◌, ◌∙◌, ℕ, get_or, length, refl, sym, subst}
use Rattle.std.specs.Prelude.{slice_index}
use Rattle.std.proofs.lemmas.List.{get_or_default}
use Rattle.pw_alloc_weights.proofs.Counting.{count_none, count_more, count_all}
use Rattle.pw_alloc_weights.proofs.weights.count_uses.Goals as goal

pub loop-place-init : goal.loop-place-init
loop-place-init c = record { long = refl; value = λ u. count_none c.args.factor (slice_index c.args.weights.now u) }

pub count-requires : goal.count-requires
count-requires c = subst (λ (n : ℕ). get_or c.args.uses.now c.loop-place.place 0 < n) (sym c.loop-place.invariant.long) (c.requires c.loop-place.place 0 c.loop-place-test.true)

pub loop-place-preserved : goal.loop-place-preserved
loop-place-preserved c =
    let uses = c.args.uses.now in
    let k = c.loop-place.place in
    let t = get_or uses k 0 in
    record {
      long = c.count.ensures.length ∙ c.loop-place.invariant.long;
      value = λ u. count_more uses k t u c.args.factor (slice_index c.args.weights.now u) (slice_index c.loop-place.weights u) (slice_index c.count.new.weights u)
          c.loop-place-test.true (get_or_default uses k t 0 c.loop-place-test.true) (c.in_ok-count.ensures.value u) (c.loop-place.invariant.value u);
    }

pub returns-clause-value : goal.returns-clause-value
returns-clause-value c = λ u. count_all c.args.uses.now c.loop-place.place u c.args.factor (slice_index c.args.weights.now u) (slice_index c.loop-place.weights u) c.loop-place-test.false (c.loop-place.invariant.value u)
