use Rattle.std.proofs.Common.{◌-◌}
use Rattle.pw_parse_grammar.specs.Declarators.{parameter, parameters_end, parameters}
use Rattle.pw_parse_grammar.specs.Input.{turn_with, ◌<$>◌, ◌>>=◌}
use Rattle.pw_parse_declarators.specs.Views.{parameter_first}
use Rattle.pw_parse_cursor.proofs.Loops.{Reading, prepend}
use Rattle.pw_parse_declarators.proofs.declarator.parameters.Given as goal

abbrev pub invariant-loop-turn : goal.invariant-loop-turn
invariant-loop-turn g l =
    Reading (parameter (g.P.SmallerParts.parsers l.parts) >>= λ first. turn_with first <$> parameters_end) (parameters (g.P.SmallerParts.parsers l.parts) l.fn.tokens)
    (prepend parameter_first l.found.items) (l._turn-end - l._turn) l.tokens
