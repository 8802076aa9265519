use Rattle.std.proofs.Common.{◌-◌, []}
use Rattle.pw_parse_grammar.specs.Declarators.{qualifier, qualifiers}
use Rattle.pw_parse_grammar.specs.Input.{turn_of, ◌<$>◌}
use Rattle.pw_parse_declarators.specs.Views.{qualifier_first}
use Rattle.pw_parse_cursor.proofs.Loops.{Reading, prepend}
use Rattle.pw_parse_declarators.proofs.declarator.qualifiers.Given as goal

abbrev pub invariant-loop-turn : goal.invariant-loop-turn
invariant-loop-turn l = Reading (turn_of [] <$> qualifier) (qualifiers l.fn.tokens) (prepend qualifier_first l.found.items) (l._turn-end - l._turn) l.tokens
