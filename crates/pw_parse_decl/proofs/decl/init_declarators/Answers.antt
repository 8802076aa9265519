use Rattle.std.proofs.Common.{rules, ◌≡◌, ◌-◌, ◌++◌, [], ◌∷◌, Ok, ap, ◌∙◌, arith}
use Rattle.std.proofs.lemmas.Grind.{common_steps}
use Rattle.pw_parse_grammar.specs.Declarations.{init_declarators}
use Rattle.pw_parse_grammar.specs.Input.{turns}
use Rattle.pw_parse_decl.specs.Views.{init_declarator_first}
use Rattle.pw_parse_cursor.proofs.Loops.{begins_with, unrolled, keeps, runs_out}
use Rattle.pw_parse_decl.proofs.Shown.{init_declarators_shown}
use Rattle.pw_parse_decl.proofs.decl.init_declarators.Goals as goal

pub loop-turn-init : goal.loop-turn-init
unfolding init_declarators
loop-turn-init g c =
    let e : c.turns-turn-end.result - 0 ≡ turns c.args.tokens.now = omega arith in
    begins_with init_declarator_first _ c.args.first _ _ _ _ (first_of (search rules, grind (arith, common_steps))) e

pub returns-in_err-declarator : goal.returns-in_err-declarator
returns-in_err-declarator g c =
    let e = unrolled _ _ c.loop-turn-test.true c.loop-turn.invariant in
    first_of (search rules, grind (arith, common_steps))

pub returns-in_default : goal.returns-in_default
returns-in_default g c =
    let e = unrolled _ _ c.loop-turn-test.true c.loop-turn.invariant in
    let s = init_declarators_shown c.loop-turn.found.items in
    first_of (search rules, grind (arith, common_steps))

pub loop-turn-preserved : goal.loop-turn-preserved
loop-turn-preserved g c =
    keeps init_declarator_first _ _ _ c.loop-turn-test.true c.loop-turn.invariant c.in-Some.declarator _ _ (first_of (search rules, grind (arith, common_steps))) (first_of (search rules, grind (arith, common_steps)))

pub returns : goal.returns
returns g c _ = runs_out _ _ c.loop-turn-test.false c.loop-turn.invariant
