use Rattle.std.proofs.Common.{drop}
use Rattle.pw_tree.specs.Spelling as spell
use Rattle.pw_tree_spell.specs.Writing.{Goes}
use Rattle.pw_tree_spell.proofs.spelled.Writer.qualifiers.Given as goal

-- what is left of the list is still to come
abbrev pub invariant-loop-qualifier : goal.invariant-loop-qualifier
invariant-loop-qualifier l = Goes (spell.spell_qualifiers (drop l.qualifier-index l.qualifiers)) (spell.spell_qualifiers l.qualifiers) l.initial.self l.self
