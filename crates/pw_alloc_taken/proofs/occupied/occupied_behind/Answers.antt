use Rattle.std.proofs.Common.{◌<◌, ℕ, List, get_or, length, arith, rules, subst}
use Rattle.std.specs.Prelude.{◌↔◌}
use Rattle.std.proofs.lemmas.List.{take_all}
use Rattle.pw_alloc_masks.specs.Masks.{HasRegister}
use Rattle.pw_alloc_taken.specs.Masks.{IsOccupiedBehind}
use Rattle.pw_live_spans.proofs.Steps.{item_at}
use Rattle.pw_alloc_masks.proofs.Joining.{zero_mask}
use Rattle.pw_alloc_taken.proofs.Masking.{behind_none, behind_more}
use Rattle.pw_alloc_taken.proofs.occupied.occupied_behind.Goals as goal

pub loop-place-init : goal.loop-place-init
loop-place-init c = λ k. (
  λ h. absurd (zero_mask k h),
  λ h. absurd (behind_none c.args.definitions.now c.args.occupied.now k h),
)

pub bounds-occupied-p : goal.bounds-occupied-p
bounds-occupied-p c = c.requires c.loop-place.place 0 c.loop-place-test.true

pub offset_bounds-occupied-p : goal.offset_bounds-occupied-p
offset_bounds-occupied-p c =
    let lt : get_or c.args.definitions.now c.loop-place.place 0 < length c.args.occupied.now = c.requires c.loop-place.place 0 c.loop-place-test.true in
    first_of (omega arith, search rules, grind arith)

pub loop-place-preserved : goal.loop-place-preserved
loop-place-preserved c =
    let ds = c.args.definitions.now in
    let place = c.loop-place.place in
    behind_more ds c.args.occupied.now place (get_or ds place 0) (HasRegister c.both-more.result) (HasRegister c.loop-place.behind) c.loop-place-test.true (item_at ds place 0 c.loop-place-test.true)
    c.both-more.ensures c.loop-place.invariant

pub returns : goal.returns
returns c = subst (λ (ds : List ℕ). (k : ℕ) → HasRegister c.loop-place.behind k ↔ IsOccupiedBehind ds c.args.occupied.now k) (take_all c.loop-place.place c.args.definitions.now c.loop-place-test.false) c.loop-place.invariant
