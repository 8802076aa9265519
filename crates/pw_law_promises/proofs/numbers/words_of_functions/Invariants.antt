use Rattle.std.proofs.Common.{drop}
use Rattle.std.specs.Prelude.{All, map}
use Rattle.pw_types.specs.TypedTrees.{FunctionValue}
use Rattle.pw_typed.specs.Views as view
use Rattle.pw_law_checked.specs.Words.{WordsInStatement}
use Rattle.pw_law_promises.proofs.numbers.words_of_functions.Given as goal

-- if those that are left are words, all are
abbrev pub invariant-loop-f : goal.invariant-loop-f
invariant-loop-f l =
    All (λ (f : FunctionValue). WordsInStatement f.body) (map view.view_function (drop l.f-index l.all)) → All (λ (f : FunctionValue). WordsInStatement f.body) (map view.view_function l.all)
