use Rattle.std.proofs.Common.{◌-◌, []}
use Rattle.pw_parse_grammar.specs.Statements.{label, labels}
use Rattle.pw_parse_grammar.specs.Input.{turn_of, ◌<$>◌}
use Rattle.pw_parse_stmt.specs.Views.{label_first}
use Rattle.pw_parse_cursor.proofs.Loops.{Reading, prepend}
use Rattle.pw_parse_stmt.proofs.stmt.labels.Given as goal

abbrev pub invariant-loop-turn : goal.invariant-loop-turn
invariant-loop-turn g l = Reading (turn_of [] <$> label (g.P.StmtParts.limit l.parts)) (labels (g.P.StmtParts.limit l.parts) l.fn.tokens) (prepend label_first l.found.items) (l._turn-end - l._turn) l.tokens
