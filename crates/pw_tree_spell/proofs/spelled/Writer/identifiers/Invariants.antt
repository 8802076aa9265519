use Rattle.std.proofs.Common.{true, drop}
use Rattle.pw_tree.specs.Spelling as spell
use Rattle.pw_tree.specs.Views as view
use Rattle.pw_tree_spell.specs.Writing.{Goes}
use Rattle.pw_tree_spell.proofs.spelled.Writer.identifiers.Given as goal

-- what is left of the list is still to come
abbrev pub invariant-loop-name : goal.invariant-loop-name
invariant-loop-name l = Goes (spell.spell_identifiers l.first (view.view_words (drop l.name-index l.names))) (spell.spell_identifiers true (view.view_words l.names)) l.initial.self l.self
