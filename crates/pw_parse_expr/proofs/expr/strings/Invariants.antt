use Rattle.std.proofs.Common.{◌-◌, []}
use Rattle.pw_parse_grammar.specs.Expressions.{string, strings}
use Rattle.pw_parse_grammar.specs.Input.{turn_of, ◌<$>◌}
use Rattle.pw_parse_cursor.specs.PartViews.{word_first}
use Rattle.pw_parse_cursor.proofs.Loops.{Reading, prepend}
use Rattle.pw_parse_expr.proofs.expr.strings.Given as goal

abbrev pub invariant-loop-turn : goal.invariant-loop-turn
invariant-loop-turn l = Reading (turn_of [] <$> string) (strings l.fn.tokens) (prepend word_first l.found.items) (l._turn-end - l._turn) l.tokens
