use Rattle.std.proofs.Common.{drop}
use Rattle.pw_tree.specs.Spelling as spell
use Rattle.pw_tree.specs.Views as view
use Rattle.pw_tree_spell.specs.Writing.{Goes}
use Rattle.pw_tree_spell.proofs.spelled.Writer.strings.Given as goal

-- what is left of the list is still to come
abbrev pub invariant-loop-piece : goal.invariant-loop-piece
invariant-loop-piece l = Goes (spell.spell_strings (view.view_words (drop l.piece-index l.pieces))) (spell.spell_strings (view.view_words l.pieces)) l.initial.self l.self
