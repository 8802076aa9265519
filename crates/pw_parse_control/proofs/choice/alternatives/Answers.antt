use Rattle.std.proofs.Common.{rules, ◌≡◌, ◌-◌, Ok, ap, ◌∙◌, arith}
use Rattle.std.proofs.lemmas.Grind.{common_steps}
use Rattle.pw_tree.specs.Views.{view_otherwise}
use Rattle.pw_parse_grammar.specs.Statements.{alternative, alternatives}
use Rattle.pw_parse_grammar.specs.Input.{turns}
use Rattle.pw_parse_control.specs.Views.{else_if_first}
use Rattle.pw_parse_cursor.proofs.Loops.{begins, ends, unrolled, keeps, runs_out}
use Rattle.pw_parse_control.proofs.Shown.{else_ifs_shown}
use Rattle.pw_parse_control.proofs.choice.alternatives.Goals as goal

pub loop-turn-init : goal.loop-turn-init
unfolding alternatives
loop-turn-init g c =
    let e : c.turns-turn-end.result - 0 ≡ turns c.args.tokens.now = omega arith in
    begins else_if_first (alternative (g.P.StmtParts.limit c.args.parts.now) (g.P.StmtParts.parser c.args.parts.now)) _ _ _ _ c.new-else_ifs.ensures.items e

pub returns-in_err-else_if : goal.returns-in_err-else_if
returns-in_err-else_if g c =
    let e = unrolled _ _ c.loop-turn-test.true c.loop-turn.invariant in
    first_of (search rules, grind (arith, common_steps))

pub returns-in-Last : goal.returns-in-Last
returns-in-Last g c =
    let last = view_otherwise c.in-Last.otherwise in
    ends {turn = alternative (g.P.StmtParts.limit c.args.parts.now) (g.P.StmtParts.parser c.args.parts.now)}
    {whole = alternatives (g.P.StmtParts.limit c.args.parts.now) (g.P.StmtParts.parser c.args.parts.now) c.args.tokens.now}
    _ _ c.loop-turn-test.true c.loop-turn.invariant {last = last} (first_of (search rules, grind (arith, common_steps)))
    ∙ ap (λ a. Ok (a, c.alternative.new.tokens)) (else_ifs_shown c.loop-turn.else_ifs.items last)

pub loop-turn-preserved : goal.loop-turn-preserved
loop-turn-preserved g c =
    keeps else_if_first _ _ _ c.loop-turn-test.true c.loop-turn.invariant c.in-ElseIf.else_if _ _ (first_of (search rules, grind (arith, common_steps))) (first_of (search rules, grind (arith, common_steps)))

pub returns : goal.returns
returns g c _ = runs_out _ _ c.loop-turn-test.false c.loop-turn.invariant
