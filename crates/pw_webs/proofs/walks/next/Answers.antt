use Rattle.std.proofs.Common.{◌≡◌, ◌<◌, ◌∙◌, ℕ, List, All, arith, length, get_or, rules, refl, subst, sym}
use Rattle.std.specs.Prelude.{Some, slice_get}
use Rattle.std.proofs.lemmas.Option.{slice_get_read}
use Rattle.pw_graph.proofs.Members.{members_below}
use Rattle.pw_webs.proofs.WalkLaws.{none_next, next_put, next_end, row_below, item_at}
use Rattle.pw_webs.proofs.walks.next.Goals as goal

pub loop-place-init : goal.loop-place-init
loop-place-init c = record { same = c.in_ok-found.ensures.length; holds = none_next c.args.steps.now c.in_ok-found.found c.in_ok-found.ensures.empty }

pub bounds-steps-place : goal.bounds-steps-place
bounds-steps-place c =
    let size = c.requires.count in
    members_below c.args.from.now c.deref-place-items.result.now (length c.args.steps.now) (omega (arith, size)) (c.deref-place-items.ensures.value ∙ c.in_ok-places.ensures) c.loop-place.place-index 0 c.loop-place-test.true

pub add_row-requires : goal.add_row-requires
add_row-requires c =
    let steps = c.args.steps.now in
    let ps = c.deref-place-items.result.now in
    let i = c.loop-place.place-index in
    let p = get_or ps i 0 in
    let row = c.index-steps-place.result in
    let size = c.requires.count in
    let same = c.loop-place.invariant.same in
    let lt : p < length steps = members_below c.args.from.now ps (length steps) (omega (arith, size)) (c.deref-place-items.ensures.value ∙ c.in_ok-places.ensures) i 0 c.loop-place-test.true in
    let there = slice_get_read steps (length steps) p row refl lt c.index-steps-place.is in
    subst (λ (r : List ℕ). All (λ b. b < c.loop-place.found.len) r) (sym c.as_slice.ensures) (row_below steps p c.loop-place.found.len row c.requires.steps (omega (arith, size, same)) there)

pub offset_bounds-steps-place : goal.offset_bounds-steps-place
offset_bounds-steps-place c =
    let size = c.requires.count in
    let lt : get_or c.deref-place-items.result.now c.loop-place.place-index 0 < length c.args.steps.now =
    members_below c.args.from.now c.deref-place-items.result.now (length c.args.steps.now) (omega (arith, size)) (c.deref-place-items.ensures.value ∙ c.in_ok-places.ensures) c.loop-place.place-index 0 c.loop-place-test.true in
    first_of (omega arith, search rules, grind arith)

pub loop-place-preserved : goal.loop-place-preserved
loop-place-preserved c =
    let steps = c.args.steps.now in
    let ps = c.deref-place-items.result.now in
    let i = c.loop-place.place-index in
    let p = get_or ps i 0 in
    let row = c.index-steps-place.result in
    let size = c.requires.count in
    let lt : p < length steps = members_below c.args.from.now ps (length steps) (omega (arith, size)) (c.deref-place-items.ensures.value ∙ c.in_ok-places.ensures) i 0 c.loop-place-test.true in
    let there = slice_get_read steps (length steps) p row refl lt c.index-steps-place.is in
    record {
      same = c.add_row.ensures.length ∙ c.loop-place.invariant.same;
      holds = next_put steps ps i p c.as_slice.result.now c.loop-place.found c.add_row.new.found c.loop-place-test.true (item_at ps i 0 c.loop-place-test.true)
          (subst (λ (r : List ℕ). slice_get steps p ≡ Some r) (sym c.as_slice.ensures) there) c.loop-place.invariant.holds c.add_row.ensures.holds;
    }

pub returns-clause-holds : goal.returns-clause-holds
returns-clause-holds c = next_end c.args.steps.now c.args.from.now c.loop-place.found c.deref-place-items.result.now c.loop-place.place-index c.loop-place-test.false (c.deref-place-items.ensures.value ∙ c.in_ok-places.ensures) c.loop-place.invariant.holds
