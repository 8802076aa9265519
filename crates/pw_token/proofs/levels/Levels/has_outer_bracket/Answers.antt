use Rattle.std.proofs.Common.{arith, sym, ◌∙◌}
use Rattle.pw_token.proofs.LevelLaws.{depth-nest, outers-found, outers-missed, outers-none}
use Rattle.pw_token.specs.Nesting.{is_bracket}
use Rattle.pw_token.proofs.levels.Levels.has_outer_bracket.Goals as goal

pub offset_bounds-self-at : goal.offset_bounds-self-at
offset_bounds-self-at c = omega (arith, depth-nest c.args.self.now c.requires, c.requires.small, c.loop-at.invariant.1)

pub bounds-self-at : goal.bounds-self-at
bounds-self-at c = omega (arith, depth-nest c.args.self.now c.requires, c.requires.small, c.loop-at.invariant.1, c.loop-at-test.true)

pub returns-then-is_bracket : goal.returns-then-is_bracket
returns-then-is_bracket c =
    let s = c.args.self.now in
    sym (sym c.loop-at.invariant.0 ∙ outers-found is_bracket s.outer c.loop-at.at (omega arith) (sym c.is_bracket.ensures ∙ c.if-is_bracket.true))

pub loop-at-preserved : goal.loop-at-preserved
loop-at-preserved c =
    let s = c.args.self.now in
    (sym (outers-missed is_bracket s.outer c.loop-at.at (omega arith) (sym c.is_bracket.ensures ∙ c.if-is_bracket.false)) ∙ c.loop-at.invariant.0, omega arith)

pub returns : goal.returns
returns c = sym (sym c.loop-at.invariant.0 ∙ outers-none is_bracket c.args.self.now.outer c.loop-at.at (omega arith))
