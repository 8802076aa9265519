use Rattle.std.proofs.Common.{rules, ◌≡◌, ◌-◌, Ok, ap, ◌∙◌, arith}
use Rattle.std.proofs.lemmas.Grind.{common_steps}
use Rattle.pw_parse_grammar.specs.Specifiers.{enumerator, some_enumerators}
use Rattle.pw_parse_grammar.specs.Input.{unless_comma}
use Rattle.pw_tree.specs.Views.{view_enumerator}
use Rattle.pw_tree.specs.Trees.{NoEnumerator}
use Rattle.pw_parse_grammar.specs.Input.{turns, turn_with, ◌<$>◌, ◌>>=◌}
use Rattle.pw_parse_cursor.proofs.Loops.{begins, unrolled, keeps, keeps_last, then_more, then_last, runs_out}
use Rattle.pw_parse_specifiers.proofs.Shown.{enumerators_shown}
use Rattle.pw_parse_specifiers.proofs.specifier.some_enumerators.Goals as goal

pub loop-turn-init : goal.loop-turn-init
unfolding some_enumerators
loop-turn-init g c =
    let e : c.turns-turn-end.result - 0 ≡ turns c.args.tokens.now = omega arith in
    begins view_enumerator (enumerator (g.P.SmallerParts.parsers c.args.parts.now) >>= λ first. turn_with first <$> unless_comma NoEnumerator) _ _ _ _ c.new-found.ensures.items e

pub returns-in_err-enumerator : goal.returns-in_err-enumerator
returns-in_err-enumerator g c =
    let e = unrolled _ _ c.loop-turn-test.true c.loop-turn.invariant in
    first_of (search rules, grind (arith, common_steps))

pub returns-then-not-eat : goal.returns-then-not-eat
returns-then-not-eat g c =
    let s = enumerators_shown c.push.new.self.items in
    keeps_last view_enumerator _ _ _ c.loop-turn-test.true c.loop-turn.invariant c.in_ok-enumerator.enumerator _ NoEnumerator c.push.new.self.items (then_last (enumerator (g.P.SmallerParts.parsers c.args.parts.now)) (unless_comma NoEnumerator) c.loop-turn.tokens c.enumerator.new.tokens c.eat.new.self (view_enumerator c.in_ok-enumerator.enumerator) (NoEnumerator) (first_of (search rules, grind (arith, common_steps))) (first_of (search rules, grind (arith, common_steps)))) (first_of (search rules, grind (arith, common_steps))) ∙ ap (λ l. Ok (l, c.eat.new.self)) s

pub loop-turn-preserved : goal.loop-turn-preserved
loop-turn-preserved g c =
    keeps view_enumerator _ _ _ c.loop-turn-test.true c.loop-turn.invariant c.in_ok-enumerator.enumerator _ _ (then_more (enumerator (g.P.SmallerParts.parsers c.args.parts.now)) (unless_comma NoEnumerator) c.loop-turn.tokens c.enumerator.new.tokens c.eat.new.self (view_enumerator c.in_ok-enumerator.enumerator) (first_of (search rules, grind (arith, common_steps))) (first_of (search rules, grind (arith, common_steps)))) (first_of (search rules, grind (arith, common_steps)))

pub returns : goal.returns
returns g c _ = runs_out _ _ c.loop-turn-test.false c.loop-turn.invariant
