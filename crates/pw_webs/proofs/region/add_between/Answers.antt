use Rattle.std.proofs.Common.{ℕ, List, subst, sym}
use Rattle.std.specs.Prelude.{◌↔◌}
use Rattle.pw_fix.specs.Row.{Holds}
use Rattle.pw_webs.specs.Walking.{AreSteps, IsReached}
use Rattle.pw_webs.proofs.RegionLaws.{steps_callees, steps_callers, between_is}
use Rattle.pw_webs.proofs.region.add_between.Goals as goal

pub reached-requires-clause-steps : goal.reached-requires-clause-steps
reached-requires-clause-steps c = steps_callees c.args.graph.now c.requires.graph c.args.beside.now.callees.now c.requires.beside.callees

pub reached-requires-2-clause-steps : goal.reached-requires-2-clause-steps
reached-requires-2-clause-steps c =
    let b = c.args.beside.now in
    subst AreSteps (sym c.deref.ensures.value) (steps_callers c.args.graph.now c.requires.graph b.callers.items c.requires.beside.callers c.requires.beside.count_callers)

pub returns-clause-holds : goal.returns-clause-holds
returns-clause-holds c =
    let g = c.args.graph.now in
    let b = c.args.beside.now in
    let set = c.args.set.now in
    let down = c.in_ok-down.down in
    let up = c.in_ok-up.up in
    let downs = subst (λ (rs : List (List ℕ)). (f : ℕ) → Holds down f ↔ IsReached rs set f) c.requires.beside.callees c.in_ok-down.ensures.holds in
    let ups = subst (λ (rs : List (List ℕ)). (f : ℕ) → Holds up f ↔ IsReached rs set f) c.deref.ensures.value c.in_ok-up.ensures.holds in
    between_is g b.callers.items set down up c.add_common.new.set c.requires.beside.callers downs ups c.add_common.ensures.holds
