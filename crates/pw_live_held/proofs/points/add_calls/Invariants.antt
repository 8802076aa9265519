use Rattle.std.proofs.Common.{◌≡◌, ◌∷◌, ◌++◌, map, take, false}
use Rattle.pw_flow.specs.Outline.{Act}
use Rattle.pw_live_held.proofs.points.add_calls.Given as goal

abbrev pub invariant-loop-act : goal.invariant-loop-act
invariant-loop-act l = l.all.items ≡ l.fn.all.items ++ false ∷ map (λ (a : Act). a.calls) (take l.act-index l.block.acts)
