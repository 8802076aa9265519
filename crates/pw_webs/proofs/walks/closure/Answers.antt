use Rattle.std.proofs.Common.{◌≡◌, ◌<◌, ◌≤◌, ℕ, List, length, refl, subst, sym, arith, All, rules}
use Rattle.std.specs.Prelude.{Some, slice_get}
use Rattle.std.proofs.lemmas.Option.{slice_get_read}
use Rattle.pw_webs.proofs.WalkLaws.{walk_first, walk_on, walk_ends, row_below, waits_within, fewer_left, no_items}
use Rattle.pw_webs.proofs.walks.closure.Goals as goal

pub loop-place-init : goal.loop-place-init
loop-place-init c = walk_first c.args.steps.now c.args.within.now c.args.from c.in_ok-waiting.waiting.items c.in_ok-waiting.ensures

pub bounds-steps-place : goal.bounds-steps-place
bounds-steps-place c = waits_within c.args.steps.now c.args.within.now c.args.from c.loop-place.found c.loop-place.waiting.items c.pop.new.self.items c.in-Some.place c.loop-place.invariant c.in-Some.ensures.items c.requires.count

pub offset_bounds-steps-place : goal.offset_bounds-steps-place
offset_bounds-steps-place c =
    let lt : c.in-Some.place < length c.args.steps.now = waits_within c.args.steps.now c.args.within.now c.args.from c.loop-place.found c.loop-place.waiting.items c.pop.new.self.items c.in-Some.place c.loop-place.invariant c.in-Some.ensures.items c.requires.count in
    first_of (omega arith, search rules, grind arith)

pub visit-requires : goal.visit-requires
visit-requires c =
    let steps = c.args.steps.now in
    let p = c.in-Some.place in
    let row = c.index-steps-place.result in
    let lt = waits_within steps c.args.within.now c.args.from c.loop-place.found c.loop-place.waiting.items c.pop.new.self.items p c.loop-place.invariant c.in-Some.ensures.items c.requires.count in
    let there = slice_get_read steps (length steps) p row refl lt c.index-steps-place.is in
    let same = c.loop-place.invariant.same in
    let size = c.requires.count in
    let le : length steps ≤ c.loop-place.found.len = omega (arith, same, size) in
    subst (λ (r : List ℕ). All (λ b. b < c.loop-place.found.len) r) (sym c.as_slice.ensures) (row_below steps p c.loop-place.found.len row c.requires.steps le there)

pub loop-place-preserved : goal.loop-place-preserved
loop-place-preserved c =
    let steps = c.args.steps.now in
    let p = c.in-Some.place in
    let row = c.index-steps-place.result in
    let lt = waits_within steps c.args.within.now c.args.from c.loop-place.found c.loop-place.waiting.items c.pop.new.self.items p c.loop-place.invariant c.in-Some.ensures.items c.requires.count in
    let there = slice_get_read steps (length steps) p row refl lt c.index-steps-place.is in
    walk_on steps c.args.within.now c.args.from c.loop-place.found c.visit.new.found p c.as_slice.result.now c.loop-place.waiting.items c.pop.new.self.items c.visit.new.waiting.items c.loop-place.invariant c.in-Some.ensures.items
    (subst (λ (r : List ℕ). slice_get steps p ≡ Some r) (sym c.as_slice.ensures) there) c.in_ok-visit.ensures

pub loop-place-smaller : goal.loop-place-smaller
loop-place-smaller c =
    let less = fewer_left c.as_slice.result.now c.args.within.now c.loop-place.found c.visit.new.found c.loop-place.waiting.items c.pop.new.self.items c.visit.new.waiting.items c.in-Some.place c.in-Some.ensures.items c.in_ok-visit.ensures in
    omega (arith, less, c.loop-place.waiting.ok.0, c.visit.new.waiting.ok.0)

pub returns-clause-holds : goal.returns-clause-holds
returns-clause-holds c =
    let waiting = c.loop-place.waiting in
    let none = c.in_default.ensures.cases.0 in
    let size = waiting.ok.0 in
    walk_ends c.args.steps.now c.args.within.now c.args.from c.loop-place.found waiting.items (no_items waiting.items (omega (arith, none, size))) c.loop-place.invariant
