use Rattle.std.proofs.Common.{ℕ, List, subst, sym, inl}
use Rattle.std.specs.Prelude.{◌↔◌}
use Rattle.pw_fix.specs.Row.{Holds}
use Rattle.pw_webs.specs.Walking.{AreSteps, IsOutside}
use Rattle.pw_webs.proofs.RegionLaws.{seed_users, seed_more, steps_callers, region_end, region_less, on_true, on_false}
use Rattle.pw_webs.proofs.region.region.Goals as goal

pub loop-set-init : goal.loop-set-init
loop-set-init c = seed_users c.args.graph.now c.args.global c.in_ok-set.set c.in_ok-set.ensures.length c.in_ok-set.ensures.holds

pub outside-requires-clause-steps : goal.outside-requires-clause-steps
outside-requires-clause-steps c =
    let b = c.args.beside.now in
    subst AreSteps (sym c.deref.ensures.value) (steps_callers c.args.graph.now c.requires.graph b.callers.items c.requires.beside.callers c.requires.beside.count_callers)

pub returns-then-not-union_with-clause-holds : goal.returns-then-not-union_with-clause-holds
returns-then-not-union_with-clause-holds c =
    let b = c.args.beside.now in
    let set = c.loop-set.set in
    let more = c.in_ok-more.more in
    let outs = subst (λ (rs : List (List ℕ)). (f : ℕ) → Holds more f ↔ IsOutside rs set f) c.deref.ensures.value c.in_ok-more.ensures.holds in
    region_end c.args.graph.now c.args.global b.callers.items set more c.union_with.new.self c.requires.beside.callers c.loop-set.invariant outs c.union_with.ensures.holds
    (on_false c.union_with.result _ c.union_with.ensures.unchanged c.if-not-union_with.true)

pub loop-set-smaller : goal.loop-set-smaller
loop-set-smaller c =
    region_less c.loop-set.set c.in_ok-more.more c.union_with.new.self c.add_between.new.set c.union_with.ensures.length c.add_between.ensures.length c.union_with.ensures.holds
    (λ f h. (c.in_ok-add_between.ensures.holds f).1 (inl h)) (on_true c.union_with.result _ c.union_with.ensures.added c.if-not-union_with.false)

pub loop-set-preserved : goal.loop-set-preserved
loop-set-preserved c =
    let b = c.args.beside.now in
    let set = c.loop-set.set in
    let more = c.in_ok-more.more in
    let outs = subst (λ (rs : List (List ℕ)). (f : ℕ) → Holds more f ↔ IsOutside rs set f) c.deref.ensures.value c.in_ok-more.ensures.holds in
    seed_more c.args.graph.now c.args.global b.callers.items set more c.union_with.new.self c.add_between.new.set c.requires.beside.callers c.loop-set.invariant outs c.union_with.ensures.holds c.union_with.ensures.length
    c.in_ok-add_between.ensures.holds c.add_between.ensures.length

pub loop-set-smaller-in_ok-add_between : goal.loop-set-smaller-in_ok-add_between
loop-set-smaller-in_ok-add_between c =
    region_less c.loop-set.set c.in_ok-more.more c.union_with.new.self c.add_between.new.set c.union_with.ensures.length c.add_between.ensures.length c.union_with.ensures.holds
    (λ f h. (c.in_ok-add_between.ensures.holds f).1 (inl h)) (on_true c.union_with.result _ c.union_with.ensures.added c.if-not-union_with.false)

pub loop-set-preserved-in_ok-add_between : goal.loop-set-preserved-in_ok-add_between
loop-set-preserved-in_ok-add_between c =
    let b = c.args.beside.now in
    let set = c.loop-set.set in
    let more = c.in_ok-more.more in
    let outs = subst (λ (rs : List (List ℕ)). (f : ℕ) → Holds more f ↔ IsOutside rs set f) c.deref.ensures.value c.in_ok-more.ensures.holds in
    seed_more c.args.graph.now c.args.global b.callers.items set more c.union_with.new.self c.add_between.new.set c.requires.beside.callers c.loop-set.invariant outs c.union_with.ensures.holds c.union_with.ensures.length
    c.in_ok-add_between.ensures.holds c.add_between.ensures.length
