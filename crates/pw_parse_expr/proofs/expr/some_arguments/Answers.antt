use Rattle.std.proofs.Common.{rules, ◌≡◌, ◌-◌, Ok, ap, ◌∙◌, arith}
use Rattle.std.proofs.lemmas.Grind.{common_steps}
use Rattle.pw_parse_grammar.specs.Expressions.{argument, some_arguments}
use Rattle.pw_parse_grammar.specs.Input.{unless_comma}
use Rattle.pw_parse_expr.specs.Views.{argument_first}
use Rattle.pw_tree.specs.Trees.{NoArgument}
use Rattle.pw_parse_grammar.specs.Input.{turns}
use Rattle.pw_parse_cursor.proofs.Loops.{begins, unrolled, keeps, keeps_last, then_more, then_last, runs_out}
use Rattle.pw_parse_expr.proofs.Shown.{arguments_shown}
use Rattle.pw_parse_expr.proofs.expr.some_arguments.Goals as goal

pub loop-turn-init : goal.loop-turn-init
unfolding some_arguments
loop-turn-init g c =
    let e : c.turns-turn-end.result - 0 ≡ turns c.args.tokens.now = omega arith in
    begins argument_first _ _ _ _ _ c.new-found.ensures.items e

pub returns-in_err-argument : goal.returns-in_err-argument
returns-in_err-argument g c =
    let e = unrolled _ _ c.loop-turn-test.true c.loop-turn.invariant in
    first_of (search rules, grind (arith, common_steps))

pub returns-then-not-eat : goal.returns-then-not-eat
returns-then-not-eat g c =
    let s = arguments_shown c.push.new.self.items in
    keeps_last argument_first _ _ _ c.loop-turn-test.true c.loop-turn.invariant c.in_ok-argument.argument _ NoArgument c.push.new.self.items (then_last (argument (g.P.SmallerParts.parsers c.args.parts.now)) (unless_comma NoArgument) c.loop-turn.tokens c.argument.new.tokens c.eat.new.self (argument_first c.in_ok-argument.argument) (NoArgument) (first_of (search rules, grind (arith, common_steps))) (first_of (search rules, grind (arith, common_steps)))) (first_of (search rules, grind (arith, common_steps))) ∙ ap (λ l. Ok (l, c.eat.new.self)) s

pub loop-turn-preserved : goal.loop-turn-preserved
loop-turn-preserved g c =
    keeps argument_first _ _ _ c.loop-turn-test.true c.loop-turn.invariant c.in_ok-argument.argument _ _ (then_more (argument (g.P.SmallerParts.parsers c.args.parts.now)) (unless_comma NoArgument) c.loop-turn.tokens c.argument.new.tokens c.eat.new.self (argument_first c.in_ok-argument.argument) (first_of (search rules, grind (arith, common_steps))) (first_of (search rules, grind (arith, common_steps)))) (first_of (search rules, grind (arith, common_steps)))

pub returns : goal.returns
returns g c _ = runs_out _ _ c.loop-turn-test.false c.loop-turn.invariant
