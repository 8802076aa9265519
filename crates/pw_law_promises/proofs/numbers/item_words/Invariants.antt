use Rattle.std.proofs.Common.{drop}
use Rattle.std.specs.Prelude.{map}
use Rattle.pw_typed.specs.Views as view
use Rattle.pw_law_checked.specs.Words.{WordsInItems}
use Rattle.pw_law_promises.proofs.numbers.item_words.Given as goal

-- if those that are left are words, all are
abbrev pub invariant-loop-item : goal.invariant-loop-item
invariant-loop-item l = WordsInItems (map view.view_placed (drop l.item-index l.items)) → WordsInItems (map view.view_placed l.items)
