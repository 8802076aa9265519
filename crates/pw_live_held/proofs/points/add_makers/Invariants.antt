use Rattle.std.proofs.Common.{◌≡◌, ◌∷◌, ◌++◌, map, take}
use Rattle.std.specs.Prelude.{None}
use Rattle.pw_flow.specs.Outline.{Act}
use Rattle.pw_live_held.proofs.points.add_makers.Given as goal

abbrev pub invariant-loop-act : goal.invariant-loop-act
invariant-loop-act l = l.makers.items ≡ l.fn.makers.items ++ None ∷ map (λ (a : Act). a.defines) (take l.act-index l.block.acts)
