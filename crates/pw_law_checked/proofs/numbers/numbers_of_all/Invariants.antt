use Rattle.std.proofs.Common.{drop}
use Rattle.std.specs.Prelude.{All, map}
use Rattle.pw_types.specs.TypedTrees.{GlobalValue}
use Rattle.pw_typed.specs.Views as view
use Rattle.pw_law_checked.specs.Names.{HasWord}
use Rattle.pw_law_checked.proofs.numbers.numbers_of_all.Given as goal

-- if those that are left are words, all are
abbrev pub invariant-loop-object : goal.invariant-loop-object
invariant-loop-object l =
    All (λ (g : GlobalValue). HasWord g.name) (map view.view_global (drop l.object-index l.all)) → All (λ (g : GlobalValue). HasWord g.name) (map view.view_global l.all)
