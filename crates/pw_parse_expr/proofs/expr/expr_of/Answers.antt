use Rattle.std.proofs.Common.{rules, ◌≡◌, ◌≤◌, suc, ◌+◌, ◌-◌, ap, ◌∙◌, sym, arith}
use Rattle.std.proofs.lemmas.Grind.{common_steps}
use Rattle.pw_tree.specs.Views.{view_expr}
use Rattle.pw_parse_grammar.specs.Expressions.{above_cast, goes_on}
use Rattle.pw_parse_grammar.specs.Input.{Input}
use Rattle.pw_parse_expr.proofs.Levels.{one_more_level, wrong_above, levels}
use Rattle.pw_parse_expr.proofs.expr.expr_of.Goals as goal

pub returns-in_err-found : goal.returns-in_err-found
unfolding above_cast
returns-in_err-found g c =
    let p = g.P.SmallerParts.parsers c.args.parts.now in
    let e = levels p c.args.level c.args.tokens.now (omega arith) in
    let w = λ (j : Input). wrong_above p c.args.tokens.now 0 (c.args.level - 3) {j = j} (omega arith) in
    first_of (search (rules, w), grind (arith, common_steps, w))

pub returns-in_err-found-2 : goal.returns-in_err-found-2
returns-in_err-found-2 g c =
    let p = g.P.SmallerParts.parsers c.args.parts.now in
    let e = levels p c.args.level c.args.tokens.now (omega arith) in
    let k : suc (c.loop-below.below - 3) ≤ c.args.level - 3 = omega arith in
    let n : c.loop-below.below - 3 + 4 ≡ c.loop-below.below + 1 = omega arith in
    let s = one_more_level p c.args.tokens.now (c.loop-below.below - 3) c.loop-below.invariant.read ∙ ap (λ m. goes_on p m (view_expr c.loop-below.found) c.loop-below.tokens) n in
    let w = λ (j : Input). wrong_above p c.args.tokens.now (suc (c.loop-below.below - 3)) (c.args.level - 3) {j = j} k in
    first_of (search (rules, w), grind (arith, common_steps, w))

pub loop-below-init : goal.loop-below-init
unfolding above_cast
loop-below-init g c = record { from = omega arith; to = omega arith; read = first_of (search rules, grind (arith, common_steps)) }

pub loop-below-preserved : goal.loop-below-preserved
loop-below-preserved g c =
    let p = g.P.SmallerParts.parsers c.args.parts.now in
    let m : c.loop-below.below + 1 - 3 ≡ suc (c.loop-below.below - 3) = omega arith in
    let n : c.loop-below.below - 3 + 4 ≡ c.loop-below.below + 1 = omega arith in
    let s = ap (λ k. above_cast p k c.args.tokens.now) m ∙ one_more_level p c.args.tokens.now (c.loop-below.below - 3) c.loop-below.invariant.read ∙ ap (λ m. goes_on p m (view_expr c.loop-below.found) c.loop-below.tokens) n in
    record { from = omega arith; to = omega arith; read = first_of (search rules, grind (arith, common_steps)) }

pub returns : goal.returns
returns g c =
    let p = g.P.SmallerParts.parsers c.args.parts.now in
    let e = levels p c.args.level c.args.tokens.now (omega arith) in
    let k : c.loop-below.below ≡ c.args.level = omega arith in
    e ∙ ap (λ n. above_cast p (n - 3) c.args.tokens.now) (sym k) ∙ c.loop-below.invariant.read
