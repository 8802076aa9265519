-- What is left of the list is still to come.
use Rattle.std.proofs.Common.{drop}
use Rattle.pw_tree.specs.Spelling as spell
use Rattle.pw_tree.specs.Views as view
use Rattle.pw_tree_spell.specs.Writing.{Goes}
use Rattle.pw_tree_spell.proofs.spelled.Writer.labels.Given as goal

abbrev pub invariant-loop-label : goal.invariant-loop-label
invariant-loop-label l =
    Goes (spell.spell_labels (view.view_labels (drop l.label-index l.labels))) (spell.spell_labels (view.view_labels l.labels)) l.initial.self l.self
