use Rattle.std.proofs.Common.{rules, ◌≡◌, ◌-◌, arith}
use Rattle.std.proofs.lemmas.Grind.{common_steps}
use Rattle.pw_parse_grammar.specs.Declarators.{pointers}
use Rattle.pw_parse_declarators.specs.Views.{pointer_first}
use Rattle.pw_parse_grammar.specs.Input.{turns}
use Rattle.pw_parse_cursor.proofs.Loops.{begins, unrolled, keeps, runs_out}
use Rattle.pw_parse_declarators.proofs.Shown.{pointers_shown}
use Rattle.pw_parse_declarators.proofs.declarator.pointers.Goals as goal

pub loop-turn-init : goal.loop-turn-init
unfolding pointers
loop-turn-init c =
    let e : c.turns-turn-end.result - 0 ≡ turns c.args.tokens.now = omega arith in
    begins pointer_first _ _ _ _ _ c.new-found.ensures.items e

pub returns-in_err-pointer : goal.returns-in_err-pointer
returns-in_err-pointer c =
    let e = unrolled _ _ c.loop-turn-test.true c.loop-turn.invariant in
    first_of (search rules, grind (arith, common_steps))

pub returns-in_default : goal.returns-in_default
returns-in_default c =
    let e = unrolled _ _ c.loop-turn-test.true c.loop-turn.invariant in
    let s = pointers_shown c.loop-turn.found.items in
    first_of (search rules, grind (arith, common_steps))

pub loop-turn-preserved : goal.loop-turn-preserved
loop-turn-preserved c =
    keeps pointer_first _ _ _ c.loop-turn-test.true c.loop-turn.invariant c.in-Some.pointer _ _ (first_of (search rules, grind (arith, common_steps))) (first_of (search rules, grind (arith, common_steps)))

pub returns : goal.returns
returns c _ = runs_out _ _ c.loop-turn-test.false c.loop-turn.invariant
