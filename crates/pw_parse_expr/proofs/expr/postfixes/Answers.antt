use Rattle.std.proofs.Common.{rules, ◌≡◌, ◌-◌, arith}
use Rattle.std.proofs.lemmas.Grind.{common_steps}
use Rattle.pw_parse_grammar.specs.Expressions.{postfixes}
use Rattle.pw_tree.specs.Views.{view_postfix}
use Rattle.pw_parse_grammar.specs.Input.{turns}
use Rattle.pw_parse_cursor.proofs.Loops.{begins, unrolled, keeps, runs_out}
use Rattle.pw_parse_expr.proofs.Shown.{postfixes_shown}
use Rattle.pw_parse_expr.proofs.expr.postfixes.Goals as goal

pub loop-turn-init : goal.loop-turn-init
unfolding postfixes
loop-turn-init g c =
    let e : c.turns-turn-end.result - 0 ≡ turns c.args.tokens.now = omega arith in
    begins view_postfix _ _ _ _ _ c.new-found.ensures.items e

pub returns-in_err-operation : goal.returns-in_err-operation
returns-in_err-operation g c =
    let e = unrolled _ _ c.loop-turn-test.true c.loop-turn.invariant in
    first_of (search rules, grind (arith, common_steps))

pub returns-in_default : goal.returns-in_default
returns-in_default g c =
    let e = unrolled _ _ c.loop-turn-test.true c.loop-turn.invariant in
    let s = postfixes_shown c.loop-turn.found.items in
    first_of (search rules, grind (arith, common_steps))

pub loop-turn-preserved : goal.loop-turn-preserved
loop-turn-preserved g c =
    keeps view_postfix _ _ _ c.loop-turn-test.true c.loop-turn.invariant c.in-Some.operation _ _ (first_of (search rules, grind (arith, common_steps))) (first_of (search rules, grind (arith, common_steps)))

pub returns : goal.returns
returns g c _ = runs_out _ _ c.loop-turn-test.false c.loop-turn.invariant
