use Rattle.std.proofs.Common.{rules, ◌≡◌, ◌-◌, Ok, ap, ◌∙◌, arith}
use Rattle.std.proofs.lemmas.Grind.{common_steps}
use Rattle.pw_tree.specs.Trees.{NoParameter}
use Rattle.pw_parse_grammar.specs.Declarators.{parameter, parameters_end, parameters}
use Rattle.pw_parse_grammar.specs.Input.{turns, turn_with, ◌<$>◌, ◌>>=◌}
use Rattle.pw_parse_declarators.specs.Views.{parameter_first}
use Rattle.pw_parse_cursor.proofs.Loops.{begins, unrolled, keeps, keeps_last, then_more, then_last, runs_out}
use Rattle.pw_parse_declarators.proofs.Shown.{parameters_shown}
use Rattle.pw_parse_declarators.proofs.declarator.parameters.Goals as goal

pub loop-turn-init : goal.loop-turn-init
unfolding parameters
loop-turn-init g c =
    let e : c.turns-turn-end.result - 0 ≡ turns c.args.tokens.now = omega arith in
    begins parameter_first (parameter (g.P.SmallerParts.parsers c.args.parts.now) >>= λ first. turn_with first <$> parameters_end) _ _ _ _ c.new-found.ensures.items e

pub returns-in_err-parameter : goal.returns-in_err-parameter
returns-in_err-parameter g c =
    let e = unrolled _ _ c.loop-turn-test.true c.loop-turn.invariant in
    first_of (search rules, grind (arith, common_steps))

pub returns-in-Some : goal.returns-in-Some
returns-in-Some g c =
    keeps_last parameter_first _ _ _ c.loop-turn-test.true c.loop-turn.invariant c.in_ok-parameter.parameter _ (NoParameter, c.in-Some.variadic) c.push.new.self.items
    (then_last (parameter (g.P.SmallerParts.parsers c.args.parts.now)) parameters_end c.loop-turn.tokens c.parameter.new.tokens c.parameters_end.new.tokens (parameter_first c.in_ok-parameter.parameter) (NoParameter, c.in-Some.variadic) (first_of (search rules, grind (arith, common_steps))) (first_of (search rules, grind (arith, common_steps)))) (first_of (search rules, grind (arith, common_steps)))
    ∙ ap (λ l. Ok (l, c.parameters_end.new.tokens)) (parameters_shown c.push.new.self.items c.in-Some.variadic)

pub loop-turn-preserved : goal.loop-turn-preserved
loop-turn-preserved g c =
    keeps parameter_first _ _ _ c.loop-turn-test.true c.loop-turn.invariant c.in_ok-parameter.parameter _ _
    (then_more (parameter (g.P.SmallerParts.parsers c.args.parts.now)) parameters_end c.loop-turn.tokens c.parameter.new.tokens c.parameters_end.new.tokens (parameter_first c.in_ok-parameter.parameter) (first_of (search rules, grind (arith, common_steps))) (first_of (search rules, grind (arith, common_steps)))) (first_of (search rules, grind (arith, common_steps)))

pub returns : goal.returns
returns g c _ = runs_out _ _ c.loop-turn-test.false c.loop-turn.invariant
