use Rattle.std.proofs.Common.{rules, ◌≡◌, ◌-◌, [], Ok, ap, ◌∙◌, arith}
use Rattle.std.proofs.lemmas.Grind.{common_steps}
use Rattle.pw_parse_grammar.specs.Modules.{external, externals}
use Rattle.pw_parse.specs.Views.{external_first}
use Rattle.pw_parse_grammar.specs.Modules.{ends_text}
use Rattle.pw_parse_grammar.specs.Input.{turns}
use Rattle.pw_parse_cursor.proofs.Loops.{begins, unrolled, keeps, keeps_last, then_more, then_last, runs_out}
use Rattle.pw_parse.proofs.Shown.{externals_shown}
use Rattle.pw_parse.proofs.module.externals.Goals as goal

pub loop-turn-init : goal.loop-turn-init
unfolding externals
loop-turn-init c =
    let e : c.turns-turn-end.result - 0 ≡ turns c.args.tokens.now = omega arith in
    begins external_first _ _ _ _ _ c.new-found.ensures.items e

pub returns-in_err-external : goal.returns-in_err-external
returns-in_err-external c =
    let e = unrolled _ _ c.loop-turn-test.true c.loop-turn.invariant in
    first_of (search rules, grind (arith, common_steps))

pub returns-then-is_at_end : goal.returns-then-is_at_end
unfolding ends_text
returns-then-is_at_end c =
    let s = externals_shown c.push.new.self.items in
    keeps_last external_first _ _ _ c.loop-turn-test.true c.loop-turn.invariant c.in_ok-external.external _ [] c.push.new.self.items (then_last (external c.args.limit) (ends_text c.args.limit) c.loop-turn.tokens c.external.new.tokens c.external.new.tokens (external_first c.in_ok-external.external) ([]) (first_of (search rules, grind (arith, common_steps))) (first_of (search rules, grind (arith, common_steps)))) (first_of (search rules, grind (arith, common_steps))) ∙ ap (λ l. Ok (l, c.external.new.tokens)) s

pub loop-turn-preserved : goal.loop-turn-preserved
unfolding ends_text
loop-turn-preserved c =
    keeps external_first _ _ _ c.loop-turn-test.true c.loop-turn.invariant c.in_ok-external.external _ _ (then_more (external c.args.limit) (ends_text c.args.limit) c.loop-turn.tokens c.external.new.tokens c.external.new.tokens (external_first c.in_ok-external.external) (first_of (search rules, grind (arith, common_steps))) (first_of (search rules, grind (arith, common_steps)))) (first_of (search rules, grind (arith, common_steps)))

pub returns : goal.returns
returns c _ = runs_out _ _ c.loop-turn-test.false c.loop-turn.invariant
