-- A node with a list in it: its spelling is that of its parts.
use Rattle.std.proofs.Common.{arith, rules}
use Rattle.std.proofs.lemmas.Grind.{common_steps}
use Rattle.pw_tree_spell.proofs.Nested.{if_writes}
use Rattle.pw_tree_spell.proofs.Nodes.{spell_compound_node}
use Rattle.pw_tree_spell.proofs.spelled.Writer.+stmt.Goals as goal

pub stmt-returns-in-Block : goal.stmt-returns-in-Block
stmt-returns-in-Block t c = grind (arith, common_steps, spell_compound_node _ _ (c.statements_show_their_lists.ensures.compound c.in-Block.block))

pub stmt-returns-in-If : goal.stmt-returns-in-If
stmt-returns-in-If t c =
    if_writes c.args.stmt.now c.in-If.token c.in-If.condition c.in-If.chosen c.in-If.else_ifs c.in-If.otherwise _ _ _ _ _ _ _ _ _ _ _ _ c.in-If.is
    (c.statements_show_their_lists.ensures.ifs c.in-If.token c.in-If.condition c.in-If.chosen c.in-If.else_ifs c.in-If.otherwise)
    c.head.ensures c.stmt-in-If.ensures c.else_ifs.ensures c.otherwise.ensures (search rules) (search rules)
