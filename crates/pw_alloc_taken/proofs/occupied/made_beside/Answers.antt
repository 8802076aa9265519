use Rattle.std.proofs.Common.{ℕ, List, get_or, subst}
use Rattle.std.specs.Prelude.{◌↔◌}
use Rattle.std.proofs.lemmas.List.{take_all}
use Rattle.std.proofs.lemmas.List.Elements.{Contains-get_or}
use Rattle.pw_live_spans.proofs.Steps.{item_at}
use Rattle.pw_alloc_masks.specs.Masks.{HasRegister}
use Rattle.pw_alloc_masks.proofs.Joining.{zero_mask}
use Rattle.pw_alloc_taken.specs.Masks.{IsMadeBeside}
use Rattle.pw_alloc_taken.proofs.Masking.{beside_none, beside_more}
use Rattle.pw_alloc_taken.proofs.occupied.made_beside.Goals as goal

pub loop-place-init : goal.loop-place-init
loop-place-init c = λ k. (
  λ h. absurd (zero_mask k h),
  λ h. absurd (beside_none c.args.made.now c.args.spans.now k h),
)

pub within-within-requires-clause-points : goal.within-within-requires-clause-points
within-within-requires-clause-points c = λ p low high. c.requires.points p (get_or c.args.spans.now c.loop-place.place (0, 0), Contains-get_or c.args.spans.now c.loop-place.place (0, 0) c.loop-place-test.true, (low, high))

pub loop-place-preserved : goal.loop-place-preserved
loop-place-preserved c =
    let spans = c.args.spans.now in
    let place = c.loop-place.place in
    beside_more c.args.made.now spans place (get_or spans place (0, 0)) (HasRegister c.both-more.result) (HasRegister c.loop-place.beside) (HasRegister c.within-within.result) c.loop-place-test.true (item_at spans place (0, 0) c.loop-place-test.true)
    c.within-within.ensures c.both-more.ensures c.loop-place.invariant

pub returns : goal.returns
returns c = subst (λ (ss : List (ℕ × ℕ)). (k : ℕ) → HasRegister c.loop-place.beside k ↔ IsMadeBeside c.args.made.now ss k) (take_all c.loop-place.place c.args.spans.now c.loop-place-test.false) c.loop-place.invariant
