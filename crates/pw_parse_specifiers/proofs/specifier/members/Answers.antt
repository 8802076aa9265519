use Rattle.std.proofs.Common.{rules, ◌≡◌, ◌-◌, Ok, ap, ◌∙◌, arith}
use Rattle.std.proofs.lemmas.Grind.{common_steps}
use Rattle.pw_parse_grammar.specs.Specifiers.{member, members}
use Rattle.pw_parse_specifiers.specs.Views.{member_first}
use Rattle.pw_tree.specs.Trees.{NoMember}
use Rattle.pw_parse_grammar.specs.Specifiers.{closes_members}
use Rattle.pw_parse_grammar.specs.Input.{turns, turn_with, ◌<$>◌, ◌>>=◌}
use Rattle.pw_parse_cursor.proofs.Loops.{begins, unrolled, keeps, keeps_last, then_more, then_last, runs_out}
use Rattle.pw_parse_specifiers.proofs.Shown.{members_shown}
use Rattle.pw_parse_specifiers.proofs.specifier.members.Goals as goal

pub loop-turn-init : goal.loop-turn-init
unfolding members
loop-turn-init g c =
    let e : c.turns-turn-end.result - 0 ≡ turns c.args.tokens.now = omega arith in
    begins member_first (member (g.P.SmallerParts.parsers c.args.parts.now) >>= λ first. turn_with first <$> closes_members) _ _ _ _ c.new-found.ensures.items e

pub returns-in_err-member : goal.returns-in_err-member
returns-in_err-member g c =
    let e = unrolled _ _ c.loop-turn-test.true c.loop-turn.invariant in
    first_of (search rules, grind (arith, common_steps))

pub returns-then-eat : goal.returns-then-eat
returns-then-eat g c =
    let s = members_shown c.push.new.self.items in
    keeps_last member_first _ _ _ c.loop-turn-test.true c.loop-turn.invariant c.in_ok-member.member _ NoMember c.push.new.self.items (then_last (member (g.P.SmallerParts.parsers c.args.parts.now)) (closes_members) c.loop-turn.tokens c.member.new.tokens c.eat.new.self (member_first c.in_ok-member.member) (NoMember) (first_of (search rules, grind (arith, common_steps))) (first_of (search rules, grind (arith, common_steps)))) (first_of (search rules, grind (arith, common_steps))) ∙ ap (λ l. Ok (l, c.eat.new.self)) s

pub loop-turn-preserved : goal.loop-turn-preserved
loop-turn-preserved g c =
    keeps member_first _ _ _ c.loop-turn-test.true c.loop-turn.invariant c.in_ok-member.member _ _ (then_more (member (g.P.SmallerParts.parsers c.args.parts.now)) (closes_members) c.loop-turn.tokens c.member.new.tokens c.eat.new.self (member_first c.in_ok-member.member) (first_of (search rules, grind (arith, common_steps))) (first_of (search rules, grind (arith, common_steps)))) (first_of (search rules, grind (arith, common_steps)))

pub returns : goal.returns
returns g c _ = runs_out _ _ c.loop-turn-test.false c.loop-turn.invariant
