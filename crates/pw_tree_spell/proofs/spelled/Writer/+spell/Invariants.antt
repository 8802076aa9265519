-- Each loop: what is left of the list is still to come.
use Rattle.std.proofs.Common.{true, drop}
use Rattle.pw_tree.specs.Spelling as spell
use Rattle.pw_tree.specs.Views as view
use Rattle.pw_tree_spell.specs.Writing.{Goes}
use Rattle.pw_tree_spell.proofs.spelled.Writer.+spell.Given as goal

abbrev pub invariant-arguments-loop-argument : goal.invariant-arguments-loop-argument
invariant-arguments-loop-argument l =
    Goes (spell.spell_arguments l.first (view.view_arguments (drop l.argument-index l.arguments))) (spell.spell_arguments true (view.view_arguments l.arguments)) l.initial.self l.self

abbrev pub invariant-enumerators-loop-enumerator : goal.invariant-enumerators-loop-enumerator
invariant-enumerators-loop-enumerator l =
    Goes (spell.spell_enumerators l.first (view.view_enumerators (drop l.enumerator-index l.enumerators))) (spell.spell_enumerators true (view.view_enumerators l.enumerators)) l.initial.self l.self

abbrev pub invariant-member_declarators-loop-declarator : goal.invariant-member_declarators-loop-declarator
invariant-member_declarators-loop-declarator l =
    Goes (spell.spell_member_declarators l.first (view.view_member_declarators (drop l.declarator-index l.declarators))) (spell.spell_member_declarators true (view.view_member_declarators l.declarators)) l.initial.self l.self

abbrev pub invariant-members-loop-member : goal.invariant-members-loop-member
invariant-members-loop-member l =
    Goes (spell.spell_members (view.view_members (drop l.member-index l.members))) (spell.spell_members (view.view_members l.members)) l.initial.self l.self

abbrev pub invariant-operations-loop-operation : goal.invariant-operations-loop-operation
invariant-operations-loop-operation l =
    Goes (spell.spell_operations (view.view_operations (drop l.operation-index l.operations))) (spell.spell_operations (view.view_operations l.operations)) l.initial.self l.self

abbrev pub invariant-parameters-loop-parameter : goal.invariant-parameters-loop-parameter
invariant-parameters-loop-parameter l =
    Goes (spell.spell_parameters l.first (view.view_parameters (drop l.parameter-index l.parameters))) (spell.spell_parameters true (view.view_parameters l.parameters)) l.initial.self l.self

abbrev pub invariant-postfixes-loop-operation : goal.invariant-postfixes-loop-operation
invariant-postfixes-loop-operation l =
    Goes (spell.spell_postfixes (view.view_postfixes (drop l.operation-index l.operations))) (spell.spell_postfixes (view.view_postfixes l.operations)) l.initial.self l.self

abbrev pub invariant-specifiers-loop-specifier : goal.invariant-specifiers-loop-specifier
invariant-specifiers-loop-specifier l =
    Goes (spell.spell_specifiers (view.view_specifiers (drop l.specifier-index l.specifiers))) (spell.spell_specifiers (view.view_specifiers l.specifiers)) l.initial.self l.self

abbrev pub invariant-suffixes-loop-suffix : goal.invariant-suffixes-loop-suffix
invariant-suffixes-loop-suffix l =
    Goes (spell.spell_suffixes (view.view_suffixes (drop l.suffix-index l.suffixes))) (spell.spell_suffixes (view.view_suffixes l.suffixes)) l.initial.self l.self
