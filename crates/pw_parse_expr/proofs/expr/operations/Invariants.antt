use Rattle.std.proofs.Common.{◌-◌}
use Rattle.pw_parse_grammar.specs.Expressions.{operation, operations}
use Rattle.pw_parse_grammar.specs.Input.{turn_of, ◌<$>◌}
use Rattle.pw_parse_expr.specs.Views.{operation_first}
use Rattle.pw_tree.specs.Trees.{NoOperation}
use Rattle.pw_parse_cursor.proofs.Loops.{Reading, prepend}
use Rattle.pw_parse_expr.proofs.expr.operations.Given as goal

abbrev pub invariant-loop-turn : goal.invariant-loop-turn
invariant-loop-turn g l = Reading (turn_of NoOperation <$> operation (g.P.SmallerParts.parsers l.parts) l.level) (operations (g.P.SmallerParts.parsers l.parts) l.level l.fn.tokens) (prepend operation_first l.found.items) (l._turn-end - l._turn) l.tokens
