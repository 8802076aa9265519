-- A node with a list in it: its spelling is that of its parts.
use Rattle.std.proofs.Common.{arith}
use Rattle.std.proofs.lemmas.Grind.{common_steps}
use Rattle.pw_tree_spell.proofs.Nodes.{spell_braces_node}
use Rattle.pw_tree_spell.proofs.spelled.Writer.+init.Goals as goal

pub init-returns-in-List : goal.init-returns-in-List
init-returns-in-List t c = grind (arith, common_steps, spell_braces_node _ _ _ _ (c.statements_show_their_lists.ensures.braces c.in-List.token c.in-List.items c.in-List.trailing_comma))
