use Rattle.std.proofs.Common.{rules, ◌≡◌, ◌-◌, arith}
use Rattle.std.proofs.lemmas.Grind.{common_steps}
use Rattle.pw_parse_grammar.specs.Expressions.{strings}
use Rattle.pw_parse_cursor.specs.PartViews.{word_first}
use Rattle.pw_parse_grammar.specs.Input.{turns}
use Rattle.pw_parse_cursor.proofs.Loops.{begins, unrolled, keeps, runs_out}
use Rattle.pw_parse_cursor.proofs.Shown.{words_shown}
use Rattle.pw_parse_expr.proofs.expr.strings.Goals as goal

pub loop-turn-init : goal.loop-turn-init
unfolding strings
loop-turn-init c =
    let e : c.turns-turn-end.result - 0 ≡ turns c.args.tokens.now = omega arith in
    begins word_first _ _ _ _ _ c.new-found.ensures.items e

pub returns-in_err-word : goal.returns-in_err-word
returns-in_err-word c =
    let e = unrolled _ _ c.loop-turn-test.true c.loop-turn.invariant in
    first_of (search rules, grind (arith, common_steps))

pub returns-in_default : goal.returns-in_default
returns-in_default c =
    let e = unrolled _ _ c.loop-turn-test.true c.loop-turn.invariant in
    let s = words_shown c.loop-turn.found.items in
    first_of (search rules, grind (arith, common_steps))

pub loop-turn-preserved : goal.loop-turn-preserved
loop-turn-preserved c =
    keeps word_first _ _ _ c.loop-turn-test.true c.loop-turn.invariant c.in-Some.word _ _ (first_of (search rules, grind (arith, common_steps))) (first_of (search rules, grind (arith, common_steps)))

pub returns : goal.returns
returns c _ = runs_out _ _ c.loop-turn-test.false c.loop-turn.invariant
