use Rattle.std.proofs.Common.{◌-◌}
use Rattle.pw_parse_grammar.specs.Statements.{stmt_next, stmts}
use Rattle.pw_parse_grammar.specs.Input.{turn_of, ◌<$>◌}
use Rattle.pw_parse_stmt.specs.Views.{stmt_first}
use Rattle.pw_tree.specs.Trees.{NoStmt}
use Rattle.pw_parse_cursor.proofs.Loops.{Reading, prepend}
use Rattle.pw_parse_stmt.proofs.stmt.stmts.Given as goal

abbrev pub invariant-loop-turn : goal.invariant-loop-turn
invariant-loop-turn g l = Reading (turn_of NoStmt <$> stmt_next (g.P.StmtParts.limit l.parts) (g.P.StmtParts.parser l.parts)) (stmts (g.P.StmtParts.limit l.parts) (g.P.StmtParts.parser l.parts) l.fn.tokens) (prepend stmt_first l.found.items) (l._turn-end - l._turn) l.tokens
