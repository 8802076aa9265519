use Rattle.std.proofs.Common.{◌-◌}
use Rattle.pw_parse_grammar.specs.Expressions.{argument, some_arguments}
use Rattle.pw_parse_grammar.specs.Input.{turn_with, unless_comma, ◌<$>◌, ◌>>=◌}
use Rattle.pw_parse_expr.specs.Views.{argument_first}
use Rattle.pw_tree.specs.Trees.{NoArgument}
use Rattle.pw_parse_cursor.proofs.Loops.{Reading, prepend}
use Rattle.pw_parse_expr.proofs.expr.some_arguments.Given as goal

abbrev pub invariant-loop-turn : goal.invariant-loop-turn
invariant-loop-turn g l = Reading (argument (g.P.SmallerParts.parsers l.parts) >>= λ first. turn_with first <$> unless_comma NoArgument) (some_arguments (g.P.SmallerParts.parsers l.parts) l.fn.tokens) (prepend argument_first l.found.items) (l._turn-end - l._turn) l.tokens
