-- A node with a list in it: its spelling is that of its parts.
use Rattle.std.proofs.Common.{arith}
use Rattle.std.proofs.lemmas.Grind.{common_steps}
use Rattle.pw_tree_spell.proofs.Nodes.{spell_enclosed_node, spell_postfix_node, spell_sizeof_node, spell_cast_node, spell_chain_node, spell_plain_member_node, spell_bit_field_node, spell_call_node, spell_record_node, spell_enum_node, spell_prototype_node, spell_variadic_node}
use Rattle.pw_tree_spell.proofs.spelled.Writer.+spell.Goals as goal

pub core-returns-in-Paren : goal.core-returns-in-Paren
core-returns-in-Paren t c = grind (arith, common_steps, spell_enclosed_node _ _ _ (c.declarators_show_their_lists.ensures.enclosed c.in-Paren.token c.in-Paren.inner))

pub expr-returns-in-Postfix : goal.expr-returns-in-Postfix
expr-returns-in-Postfix t c = grind (arith, common_steps, spell_postfix_node _ _ _ (c.expressions_show_their_lists.ensures.postfix c.in-Postfix.operand c.in-Postfix.operations))

pub expr-returns-in-SizeofType : goal.expr-returns-in-SizeofType
expr-returns-in-SizeofType t c = grind (arith, common_steps, spell_sizeof_node _ _ _ _ (c.expressions_show_their_lists.ensures.size c.in-SizeofType.token c.in-SizeofType.named))

pub expr-returns-in-Cast : goal.expr-returns-in-Cast
expr-returns-in-Cast t c = grind (arith, common_steps, spell_cast_node _ _ _ _ _ (c.expressions_show_their_lists.ensures.cast c.in-Cast.token c.in-Cast.named c.in-Cast.operand))

pub with_operators-returns-in-Chain : goal.with_operators-returns-in-Chain
with_operators-returns-in-Chain t c = grind (arith, common_steps, spell_chain_node _ _ _ (c.expressions_show_their_lists.ensures.chain c.in-Chain.first c.in-Chain.rest))

pub member_declarator-returns-in-Plain : goal.member_declarator-returns-in-Plain
member_declarator-returns-in-Plain t c = grind (arith, common_steps, spell_plain_member_node c.args.first _ _ (c.declarators_show_their_lists.ensures.plain_members c.in-Plain.declarator))

pub member_declarator-returns-in-BitField : goal.member_declarator-returns-in-BitField
member_declarator-returns-in-BitField t c = grind (arith, common_steps, spell_bit_field_node c.args.first _ _ _ _ (c.declarators_show_their_lists.ensures.bit_fields c.in-BitField.declarator c.in-BitField.token c.in-BitField.width))

pub postfix-returns-in-Call : goal.postfix-returns-in-Call
postfix-returns-in-Call t c = grind (arith, common_steps, spell_call_node _ _ _ (c.expressions_show_their_lists.ensures.call c.in-Call.token c.in-Call.arguments))

pub specifier-returns-in-Record : goal.specifier-returns-in-Record
specifier-returns-in-Record t c = grind (arith, common_steps, spell_record_node _ _ _ _ _ (c.declarators_show_their_lists.ensures.records c.in-Record.token c.in-Record.kind c.in-Record.tag c.in-Record.members))

pub specifier-returns-in-Enum : goal.specifier-returns-in-Enum
specifier-returns-in-Enum t c = grind (arith, common_steps, spell_enum_node _ _ _ _ (c.declarators_show_their_lists.ensures.enumerations c.in-Enum.token c.in-Enum.tag c.in-Enum.enumerators))

pub suffix-returns-in-Parameters : goal.suffix-returns-in-Parameters
suffix-returns-in-Parameters t c = grind (arith, common_steps, spell_prototype_node _ _ _ (c.declarators_show_their_lists.ensures.prototypes c.in-Parameters.token c.in-Parameters.parameters))

pub suffix-returns-in-Variadic : goal.suffix-returns-in-Variadic
suffix-returns-in-Variadic t c = grind (arith, common_steps, spell_variadic_node _ _ _ (c.declarators_show_their_lists.ensures.variadic c.in-Variadic.token c.in-Variadic.parameters))
