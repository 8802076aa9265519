-- What is left of the list is still to come.
use Rattle.std.proofs.Common.{drop}
use Rattle.pw_tree.specs.Spelling as spell
use Rattle.pw_tree.specs.Views as view
use Rattle.pw_tree_spell.specs.Writing.{Goes}
use Rattle.pw_tree_spell.proofs.spelled.Writer.externals.Given as goal

abbrev pub invariant-loop-external : goal.invariant-loop-external
invariant-loop-external l =
    Goes (spell.spell_externals (view.view_externals (drop l.external-index l.externals))) (spell.spell_externals (view.view_externals l.externals)) l.initial.self l.self
