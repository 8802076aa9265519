use Rattle.std.proofs.Common.{rules, ◌≡◌, ◌-◌, arith}
use Rattle.std.proofs.lemmas.Grind.{common_steps}
use Rattle.pw_parse_grammar.specs.Specifiers.{specifiers_of}
use Rattle.pw_parse_grammar.specs.Input.{turns}
use Rattle.pw_parse_specifiers.proofs.TypedLoop.{typed_begins, typed_unrolled, typed_keeps, typed_runs_out}
use Rattle.pw_parse_specifiers.proofs.Shown.{specifiers_shown}
use Rattle.pw_parse_specifiers.proofs.specifier.specifiers_of.Goals as goal

pub loop-turn-init : goal.loop-turn-init
unfolding specifiers_of
loop-turn-init g c =
    let e : c.turns-turn-end.result - 0 ≡ turns c.args.tokens.now = omega arith in
    typed_begins _ _ _ _ _ _ c.new-found.ensures.items e

pub returns-in_err-specifier : goal.returns-in_err-specifier
returns-in_err-specifier g c =
    let e = typed_unrolled _ _ c.loop-turn-test.true c.loop-turn.invariant in
    first_of (search rules, grind (arith, common_steps))

pub returns-in_default : goal.returns-in_default
returns-in_default g c =
    let e = typed_unrolled _ _ c.loop-turn-test.true c.loop-turn.invariant in
    let s = specifiers_shown c.loop-turn.found.items in
    first_of (search rules, grind (arith, common_steps))

pub loop-turn-preserved : goal.loop-turn-preserved
loop-turn-preserved g c =
    typed_keeps _ _ c.loop-turn-test.true c.loop-turn.invariant c.in-Some.specifier _ _ _ (first_of (search rules, grind (arith, common_steps))) (first_of (search rules, grind (arith, common_steps))) (first_of (search rules, grind (arith, common_steps)))

pub returns : goal.returns
returns g c _ = typed_runs_out _ _ c.loop-turn-test.false c.loop-turn.invariant
