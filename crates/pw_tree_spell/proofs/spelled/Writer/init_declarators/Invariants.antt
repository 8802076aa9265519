-- What is left of the list is still to come.
use Rattle.std.proofs.Common.{true, drop}
use Rattle.pw_tree.specs.Spelling as spell
use Rattle.pw_tree.specs.Views as view
use Rattle.pw_tree_spell.specs.Writing.{Goes}
use Rattle.pw_tree_spell.proofs.spelled.Writer.init_declarators.Given as goal

abbrev pub invariant-loop-declarator : goal.invariant-loop-declarator
invariant-loop-declarator l =
    Goes (spell.spell_init_declarators l.first (view.view_init_declarators (drop l.declarator-index l.declarators))) (spell.spell_init_declarators true (view.view_init_declarators l.declarators)) l.initial.self l.self
