use Rattle.std.proofs.Common.{rules, ◌≡◌, ◌-◌, arith}
use Rattle.std.proofs.lemmas.Grind.{common_steps}
use Rattle.pw_parse_grammar.specs.Expressions.{operations}
use Rattle.pw_parse_expr.specs.Views.{operation_first}
use Rattle.pw_parse_grammar.specs.Input.{turns}
use Rattle.pw_parse_cursor.proofs.Loops.{begins, unrolled, keeps, runs_out}
use Rattle.pw_parse_expr.proofs.Shown.{operations_shown}
use Rattle.pw_parse_expr.proofs.expr.operations.Goals as goal

pub loop-turn-init : goal.loop-turn-init
unfolding operations
loop-turn-init g c =
    let e : c.turns-turn-end.result - 0 ≡ turns c.args.tokens.now = omega arith in
    begins operation_first _ _ _ _ _ c.new-found.ensures.items e

pub returns-in_err-operation : goal.returns-in_err-operation
returns-in_err-operation g c =
    let e = unrolled _ _ c.loop-turn-test.true c.loop-turn.invariant in
    first_of (search rules, grind (arith, common_steps))

pub returns-in_default : goal.returns-in_default
returns-in_default g c =
    let e = unrolled _ _ c.loop-turn-test.true c.loop-turn.invariant in
    let s = operations_shown c.loop-turn.found.items in
    first_of (search rules, grind (arith, common_steps))

pub loop-turn-preserved : goal.loop-turn-preserved
loop-turn-preserved g c =
    keeps operation_first _ _ _ c.loop-turn-test.true c.loop-turn.invariant c.in-Some.operation _ _ (first_of (search rules, grind (arith, common_steps))) (first_of (search rules, grind (arith, common_steps)))

pub returns : goal.returns
returns g c _ = runs_out _ _ c.loop-turn-test.false c.loop-turn.invariant
