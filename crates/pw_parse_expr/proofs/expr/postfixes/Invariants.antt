use Rattle.std.proofs.Common.{◌-◌}
use Rattle.pw_parse_grammar.specs.Expressions.{postfix_operation, postfixes}
use Rattle.pw_parse_grammar.specs.Input.{turn_of, ◌<$>◌}
use Rattle.pw_tree.specs.Views.{view_postfix}
use Rattle.pw_tree.specs.Trees.{NoPostfix}
use Rattle.pw_parse_cursor.proofs.Loops.{Reading, prepend}
use Rattle.pw_parse_expr.proofs.expr.postfixes.Given as goal

abbrev pub invariant-loop-turn : goal.invariant-loop-turn
invariant-loop-turn g l = Reading (turn_of NoPostfix <$> postfix_operation (g.P.SmallerParts.parsers l.parts)) (postfixes (g.P.SmallerParts.parsers l.parts) l.fn.tokens) (prepend view_postfix l.found.items) (l._turn-end - l._turn) l.tokens
