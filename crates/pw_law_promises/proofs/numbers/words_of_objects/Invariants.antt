use Rattle.std.proofs.Common.{drop}
use Rattle.std.specs.Prelude.{All, map}
use Rattle.pw_types.specs.TypedTrees.{GlobalValue}
use Rattle.pw_typed.specs.Views as view
use Rattle.pw_law_checked.specs.Words.{WordsInItems}
use Rattle.pw_law_promises.proofs.numbers.words_of_objects.Given as goal

-- if those that are left are words, all are
abbrev pub invariant-loop-object : goal.invariant-loop-object
invariant-loop-object l =
    All (λ (g : GlobalValue). WordsInItems g.items) (map view.view_global (drop l.object-index l.all)) → All (λ (g : GlobalValue). WordsInItems g.items) (map view.view_global l.all)
