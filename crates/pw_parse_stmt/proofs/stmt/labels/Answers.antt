use Rattle.std.proofs.Common.{rules, ◌≡◌, ◌-◌, [], arith}
use Rattle.std.proofs.lemmas.Grind.{common_steps}
use Rattle.pw_parse_grammar.specs.Statements.{label, labels}
use Rattle.pw_parse_grammar.specs.Input.{turn_of, ◌<$>◌}
use Rattle.pw_parse_stmt.specs.Views.{label_first}
use Rattle.pw_parse_grammar.specs.Input.{turns}
use Rattle.pw_parse_cursor.proofs.Loops.{begins, unrolled, keeps, runs_out}
use Rattle.pw_parse_stmt.proofs.Shown.{labels_shown}
use Rattle.pw_parse_stmt.proofs.stmt.labels.Goals as goal

pub loop-turn-init : goal.loop-turn-init
unfolding labels
loop-turn-init g c =
    let e : c.turns-turn-end.result - 0 ≡ turns c.args.tokens.now = omega arith in
    begins label_first (turn_of [] <$> label (g.P.StmtParts.limit c.args.parts.now)) _ _ _ _ c.new-found.ensures.items e

pub returns-in_err-label : goal.returns-in_err-label
returns-in_err-label g c =
    let e = unrolled _ _ c.loop-turn-test.true c.loop-turn.invariant in
    first_of (search rules, grind (arith, common_steps))

pub returns-in_default : goal.returns-in_default
returns-in_default g c =
    let e = unrolled _ _ c.loop-turn-test.true c.loop-turn.invariant in
    let s = labels_shown c.loop-turn.found.items in
    first_of (search rules, grind (arith, common_steps))

pub loop-turn-preserved : goal.loop-turn-preserved
loop-turn-preserved g c =
    keeps label_first _ _ _ c.loop-turn-test.true c.loop-turn.invariant c.in-Some.label _ _ (first_of (search rules, grind (arith, common_steps))) (first_of (search rules, grind (arith, common_steps)))

pub returns : goal.returns
returns g c _ = runs_out _ _ c.loop-turn-test.false c.loop-turn.invariant
