-- What is left of the list is still to come.
use Rattle.std.proofs.Common.{drop}
use Rattle.pw_tree.specs.Spelling as spell
use Rattle.pw_tree.specs.Views as view
use Rattle.pw_tree_spell.specs.Writing.{Goes}
use Rattle.pw_tree_spell.proofs.spelled.Writer.decls.Given as goal

abbrev pub invariant-loop-decl : goal.invariant-loop-decl
invariant-loop-decl l =
    Goes (spell.spell_decls (view.view_decls (drop l.decl-index l.decls))) (spell.spell_decls (view.view_decls l.decls)) l.initial.self l.self
