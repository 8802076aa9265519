use Rattle.std.proofs.Common.{◌-◌}
use Rattle.pw_parse_grammar.specs.Statements.{alternative, alternatives}
use Rattle.pw_parse_control.specs.Views.{else_if_first}
use Rattle.pw_parse_cursor.proofs.Loops.{Reading, prepend}
use Rattle.pw_parse_control.proofs.choice.alternatives.Given as goal

abbrev pub invariant-loop-turn : goal.invariant-loop-turn
invariant-loop-turn g l =
    Reading (alternative (g.P.StmtParts.limit l.parts) (g.P.StmtParts.parser l.parts)) (alternatives (g.P.StmtParts.limit l.parts) (g.P.StmtParts.parser l.parts) l.fn.tokens)
    (prepend else_if_first l.else_ifs.items) (l._turn-end - l._turn) l.tokens
