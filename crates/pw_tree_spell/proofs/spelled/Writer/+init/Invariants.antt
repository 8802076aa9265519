-- What is left of the list is still to come.
use Rattle.std.proofs.Common.{true, drop}
use Rattle.pw_tree.specs.Spelling as spell
use Rattle.pw_tree.specs.Views as view
use Rattle.pw_tree_spell.specs.Writing.{Goes}
use Rattle.pw_tree_spell.proofs.spelled.Writer.+init.Given as goal

abbrev pub invariant-inits-loop-init : goal.invariant-inits-loop-init
invariant-inits-loop-init l =
    Goes (spell.spell_inits l.first (view.view_inits (drop l.init-index l.inits))) (spell.spell_inits true (view.view_inits l.inits)) l.initial.self l.self
