use Rattle.std.proofs.Common.{◌-◌, []}
use Rattle.pw_parse_grammar.specs.Declarators.{pointer, pointers}
use Rattle.pw_parse_grammar.specs.Input.{turn_of, ◌<$>◌}
use Rattle.pw_parse_declarators.specs.Views.{pointer_first}
use Rattle.pw_parse_cursor.proofs.Loops.{Reading, prepend}
use Rattle.pw_parse_declarators.proofs.declarator.pointers.Given as goal

abbrev pub invariant-loop-turn : goal.invariant-loop-turn
invariant-loop-turn l = Reading (turn_of [] <$> pointer) (pointers l.fn.tokens) (prepend pointer_first l.found.items) (l._turn-end - l._turn) l.tokens
