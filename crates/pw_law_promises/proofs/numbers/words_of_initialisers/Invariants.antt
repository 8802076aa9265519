use Rattle.std.proofs.Common.{drop}
use Rattle.std.specs.Prelude.{All}
use Rattle.pw_typed.specs.Views as view
use Rattle.pw_law_checked.specs.Words.{HasWords}
use Rattle.pw_law_promises.proofs.numbers.words_of_initialisers.Given as goal

-- if those that are left are words, all are
abbrev pub invariant-loop-initialiser : goal.invariant-loop-initialiser
invariant-loop-initialiser l = All HasWords (view.view_initialisers (drop l.initialiser-index l.all)) → All HasWords (view.view_initialisers l.all)
