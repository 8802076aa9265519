use Rattle.std.proofs.Common.{drop}
use Rattle.pw_tree.specs.Spelling as spell
use Rattle.pw_tree.specs.Views as view
use Rattle.pw_tree_spell.specs.Writing.{Goes}
use Rattle.pw_tree_spell.proofs.spelled.Writer.pointers.Given as goal

-- what is left of the list is still to come
abbrev pub invariant-loop-pointer : goal.invariant-loop-pointer
invariant-loop-pointer l = Goes (spell.spell_pointers (view.view_pointers (drop l.pointer-index l.pointers))) (spell.spell_pointers (view.view_pointers l.pointers)) l.initial.self l.self
