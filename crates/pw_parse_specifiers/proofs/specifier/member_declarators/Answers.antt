use Rattle.std.proofs.Common.{rules, ◌≡◌, ◌-◌, Ok, ap, ◌∙◌, arith}
use Rattle.std.proofs.lemmas.Grind.{common_steps}
use Rattle.pw_parse_grammar.specs.Specifiers.{member_declarator, member_declarators}
use Rattle.pw_parse_grammar.specs.Input.{unless_comma}
use Rattle.pw_tree.specs.Views.{view_member_declarator}
use Rattle.pw_tree.specs.Trees.{NoMemberDeclarator}
use Rattle.pw_parse_grammar.specs.Input.{turns, turn_with, ◌<$>◌, ◌>>=◌}
use Rattle.pw_parse_cursor.proofs.Loops.{begins, unrolled, keeps, keeps_last, then_more, then_last, runs_out}
use Rattle.pw_parse_specifiers.proofs.Shown.{member_declarators_shown}
use Rattle.pw_parse_specifiers.proofs.specifier.member_declarators.Goals as goal

pub loop-turn-init : goal.loop-turn-init
unfolding member_declarators
loop-turn-init g c =
    let e : c.turns-turn-end.result - 0 ≡ turns c.args.tokens.now = omega arith in
    begins view_member_declarator (member_declarator (g.P.SmallerParts.parsers c.args.parts.now) c.args.typed >>= λ first. turn_with first <$> unless_comma NoMemberDeclarator) _ _ _ _ c.new-found.ensures.items e

pub returns-in_err-declarator : goal.returns-in_err-declarator
returns-in_err-declarator g c =
    let e = unrolled _ _ c.loop-turn-test.true c.loop-turn.invariant in
    first_of (search rules, grind (arith, common_steps))

pub returns-then-not-eat : goal.returns-then-not-eat
returns-then-not-eat g c =
    let s = member_declarators_shown c.push.new.self.items in
    keeps_last view_member_declarator _ _ _ c.loop-turn-test.true c.loop-turn.invariant c.in_ok-declarator.declarator _ NoMemberDeclarator c.push.new.self.items (then_last (member_declarator (g.P.SmallerParts.parsers c.args.parts.now) c.args.typed) (unless_comma NoMemberDeclarator) c.loop-turn.tokens c.member_declarator.new.tokens c.eat.new.self (view_member_declarator c.in_ok-declarator.declarator) (NoMemberDeclarator) (first_of (search rules, grind (arith, common_steps))) (first_of (search rules, grind (arith, common_steps)))) (first_of (search rules, grind (arith, common_steps))) ∙ ap (λ l. Ok (l, c.eat.new.self)) s

pub loop-turn-preserved : goal.loop-turn-preserved
loop-turn-preserved g c =
    keeps view_member_declarator _ _ _ c.loop-turn-test.true c.loop-turn.invariant c.in_ok-declarator.declarator _ _ (then_more (member_declarator (g.P.SmallerParts.parsers c.args.parts.now) c.args.typed) (unless_comma NoMemberDeclarator) c.loop-turn.tokens c.member_declarator.new.tokens c.eat.new.self (view_member_declarator c.in_ok-declarator.declarator) (first_of (search rules, grind (arith, common_steps))) (first_of (search rules, grind (arith, common_steps)))) (first_of (search rules, grind (arith, common_steps)))

pub returns : goal.returns
returns g c _ = runs_out _ _ c.loop-turn-test.false c.loop-turn.invariant
