use Rattle.std.proofs.Common.{rules, ◌≡◌, ◌-◌, arith}
use Rattle.std.proofs.lemmas.Grind.{common_steps}
use Rattle.pw_parse_grammar.specs.Statements.{stmt_next, stmts}
use Rattle.pw_parse_grammar.specs.Input.{turn_of, ◌<$>◌}
use Rattle.pw_parse_stmt.specs.Views.{stmt_first}
use Rattle.pw_tree.specs.Trees.{NoStmt}
use Rattle.pw_parse_grammar.specs.Input.{turns}
use Rattle.pw_parse_cursor.proofs.Loops.{begins, unrolled, keeps, runs_out}
use Rattle.pw_parse_stmt.proofs.Shown.{stmts_shown}
use Rattle.pw_parse_stmt.proofs.stmt.stmts.Goals as goal

pub loop-turn-init : goal.loop-turn-init
unfolding stmts
loop-turn-init g c =
    let e : c.turns-turn-end.result - 0 ≡ turns c.args.tokens.now = omega arith in
    begins stmt_first (turn_of NoStmt <$> stmt_next (g.P.StmtParts.limit c.args.parts.now) (g.P.StmtParts.parser c.args.parts.now)) _ _ _ _ c.new-found.ensures.items e

pub returns-in_err-stmt : goal.returns-in_err-stmt
returns-in_err-stmt g c =
    let e = unrolled _ _ c.loop-turn-test.true c.loop-turn.invariant in
    first_of (search rules, grind (arith, common_steps))

pub returns-in_default : goal.returns-in_default
returns-in_default g c =
    let e = unrolled _ _ c.loop-turn-test.true c.loop-turn.invariant in
    let s = stmts_shown c.loop-turn.found.items in
    first_of (search rules, grind (arith, common_steps))

pub loop-turn-preserved : goal.loop-turn-preserved
loop-turn-preserved g c =
    keeps stmt_first _ _ _ c.loop-turn-test.true c.loop-turn.invariant c.in-Some.stmt _ _ (first_of (search rules, grind (arith, common_steps))) (first_of (search rules, grind (arith, common_steps)))

pub returns : goal.returns
returns g c _ = runs_out _ _ c.loop-turn-test.false c.loop-turn.invariant
