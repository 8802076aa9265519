use Rattle.std.proofs.Common.{◌≡◌, ◌<◌, ◌∙◌, ℕ, List, All, arith, length, get_or, rules, refl, subst, sym}
use Rattle.std.specs.Prelude.{Some, slice_get}
use Rattle.std.proofs.lemmas.Option.{slice_get_read}
use Rattle.pw_graph.proofs.Members.{members_below}
use Rattle.pw_webs.proofs.WalkLaws.{row_below, item_at}
use Rattle.pw_webs.proofs.RegionLaws.{none_outside, outside_put, outside_end}
use Rattle.pw_webs.proofs.region.outside.Goals as goal

pub loop-place-init : goal.loop-place-init
loop-place-init c = record { same = c.in_ok-found.ensures.length; holds = none_outside c.args.callers.now c.args.set.now c.in_ok-found.found c.in_ok-found.ensures.empty }

pub bounds-callers-place : goal.bounds-callers-place
bounds-callers-place c =
    let size = c.requires.count in
    members_below c.args.set.now c.deref-place-items.result.now (length c.args.callers.now) (omega (arith, size)) (c.deref-place-items.ensures.value ∙ c.in_ok-places.ensures) c.loop-place.place-index 0 c.loop-place-test.true

pub add_called-requires : goal.add_called-requires
add_called-requires c =
    let callers = c.args.callers.now in
    let ps = c.deref-place-items.result.now in
    let i = c.loop-place.place-index in
    let p = get_or ps i 0 in
    let row = c.index-callers-place.result in
    let size = c.requires.count in
    let same = c.loop-place.invariant.same in
    let lt : p < length callers = members_below c.args.set.now ps (length callers) (omega (arith, size)) (c.deref-place-items.ensures.value ∙ c.in_ok-places.ensures) i 0 c.loop-place-test.true in
    let there = slice_get_read callers (length callers) p row refl lt c.index-callers-place.is in
    subst (λ (r : List ℕ). All (λ b. b < c.loop-place.found.len) r) (sym c.as_slice.ensures) (row_below callers p c.loop-place.found.len row c.requires.steps (omega (arith, size, same)) there)

pub offset_bounds-callers-place : goal.offset_bounds-callers-place
offset_bounds-callers-place c =
    let size = c.requires.count in
    let lt : get_or c.deref-place-items.result.now c.loop-place.place-index 0 < length c.args.callers.now =
    members_below c.args.set.now c.deref-place-items.result.now (length c.args.callers.now) (omega (arith, size)) (c.deref-place-items.ensures.value ∙ c.in_ok-places.ensures) c.loop-place.place-index 0 c.loop-place-test.true in
    first_of (omega arith, search rules, grind arith)

pub loop-place-preserved : goal.loop-place-preserved
loop-place-preserved c =
    let callers = c.args.callers.now in
    let ps = c.deref-place-items.result.now in
    let i = c.loop-place.place-index in
    let p = get_or ps i 0 in
    let row = c.index-callers-place.result in
    let size = c.requires.count in
    let lt : p < length callers = members_below c.args.set.now ps (length callers) (omega (arith, size)) (c.deref-place-items.ensures.value ∙ c.in_ok-places.ensures) i 0 c.loop-place-test.true in
    let there = slice_get_read callers (length callers) p row refl lt c.index-callers-place.is in
    record {
      same = c.add_called.ensures.length ∙ c.loop-place.invariant.same;
      holds = outside_put callers c.args.set.now ps i p c.as_slice.result.now c.loop-place.found c.add_called.new.found c.loop-place-test.true (item_at ps i 0 c.loop-place-test.true)
          (subst (λ (r : List ℕ). slice_get callers p ≡ Some r) (sym c.as_slice.ensures) there) c.loop-place.invariant.holds c.add_called.ensures.holds;
    }

pub returns-clause-holds : goal.returns-clause-holds
returns-clause-holds c = outside_end c.args.callers.now c.args.set.now c.loop-place.found c.deref-place-items.result.now c.loop-place.place-index c.loop-place-test.false (c.deref-place-items.ensures.value ∙ c.in_ok-places.ensures) c.loop-place.invariant.holds
