use Rattle.std.proofs.Common.{rules, ◌≡◌, ◌-◌, [], Ok, ap, ◌∙◌, arith}
use Rattle.std.proofs.lemmas.Grind.{common_steps}
use Rattle.pw_tree.specs.Trees.{NoInit, Listed}
use Rattle.pw_parse_grammar.specs.Declarations.{inits, inits_end}
use Rattle.pw_parse_grammar.specs.Input.{turns, ◌<$>◌}
use Rattle.pw_parse_decl.specs.Views.{init_first}
use Rattle.pw_parse_cursor.proofs.Loops.{begins, unrolled, keeps, keeps_last, then_more, then_last, runs_out}
use Rattle.pw_parse_decl.proofs.Shown.{inits_shown}
use Rattle.pw_parse_decl.proofs.decl.inits.Goals as goal

pub loop-turn-init : goal.loop-turn-init
unfolding inits
loop-turn-init g c =
    let e : c.turns-turn-end.result - 0 ≡ turns c.args.tokens.now = omega arith in
    begins init_first _ _ _ _ _ c.new-found.ensures.items e

pub returns-in_err-item : goal.returns-in_err-item
returns-in_err-item g c =
    let e = unrolled _ _ c.loop-turn-test.true c.loop-turn.invariant in
    first_of (search rules, grind (arith, common_steps))

pub returns-in-Some : goal.returns-in-Some
returns-in-Some g c =
    keeps_last init_first _ _ _ c.loop-turn-test.true c.loop-turn.invariant c.in_ok-item.item _ (NoInit, c.in-Some.trailing) c.push.new.self.items
    (then_last ((λ x more. (Listed x more.0, more.1)) <$> g.P.InitParts.parser c.args.parts.now) inits_end c.loop-turn.tokens c.init.new.tokens c.inits_end.new.tokens (init_first c.in_ok-item.item) (NoInit, c.in-Some.trailing) (first_of (search rules, grind (arith, common_steps))) (first_of (search rules, grind (arith, common_steps)))) (first_of (search rules, grind (arith, common_steps)))
    ∙ ap (λ l. Ok (l, c.inits_end.new.tokens)) (inits_shown c.push.new.self.items c.in-Some.trailing)

pub loop-turn-preserved : goal.loop-turn-preserved
loop-turn-preserved g c =
    keeps init_first _ _ _ c.loop-turn-test.true c.loop-turn.invariant c.in_ok-item.item _ _
    (then_more ((λ x more. (Listed x more.0, more.1)) <$> g.P.InitParts.parser c.args.parts.now) inits_end c.loop-turn.tokens c.init.new.tokens c.inits_end.new.tokens (init_first c.in_ok-item.item) (first_of (search rules, grind (arith, common_steps))) (first_of (search rules, grind (arith, common_steps)))) (first_of (search rules, grind (arith, common_steps)))

pub returns : goal.returns
returns g c _ = runs_out _ _ c.loop-turn-test.false c.loop-turn.invariant
