use Rattle.std.proofs.Common.{◌≡◌, ◌∙◌, List, ℕ, map, ap, subst}
use Rattle.std.specs.Prelude.{Contains}
use Rattle.std.proofs.lemmas.List.{take_all}
use Rattle.std.proofs.lemmas.List.Sorted.{Contains-permutation, IsPermutation-map, IsPermutation-sym}
use Rattle.pw_law_shown.specs.Alike.{globals_of}
use Rattle.pw_build_objects.proofs.shown.globals_of.Goals as goal

pub returns : goal.returns
returns c =
    let flows = c.args.flows.now in
    let all : map (λ name. name.now) c.loop-flow.names.items ≡ globals_of flows = c.loop-flow.invariant ∙ ap globals_of (take_all c.loop-flow.flow-index flows c.loop-flow-test.false) in
    let moved = IsPermutation-sym _ _ (IsPermutation-map (λ name. name.now) _ _ c.sort_unstable.ensures.permutation) in
    λ n h. subst (λ (ns : List (List ℕ)). Contains ns n) all (Contains-permutation _ _ n moved h)
