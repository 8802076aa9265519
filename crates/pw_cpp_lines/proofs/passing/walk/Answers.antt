use Rattle.std.proofs.Common.{suc, refl}
use Rattle.pw_cpp_lines.proofs.ClosingQuotes.{unclosed-later, unclosed-none}
use Rattle.pw_cpp_lines.proofs.Walks.{no-step, walks-more}
use Rattle.pw_cpp_lines.proofs.passing.walk.Goals as goal

pub loop-len-init : goal.loop-len-init
loop-len-init c = (c.requires, (0, refl), unclosed-none c.args.text.now c.args.at c.new-unclosed.result c.new-unclosed.ensures.single c.new-unclosed.ensures.double)

pub loop-len-preserved : goal.loop-len-preserved
loop-len-preserved c =
    let text = c.args.text.now in
    let n = c.loop-len.invariant.1.0 in (
      c.in-Some.ensures.within.1,
      (suc n, walks-more c.args.passed text c.args.at n c.loop-len.end c.in-Some.len c.loop-len.invariant.1.1 c.in-Some.ensures.step),
      unclosed-later text c.loop-len.end c.in-Some.len c.step.new.unclosed c.in-Some.ensures.unclosed,
    )

pub returns-clause-walked : goal.returns-clause-walked
returns-clause-walked c = record {
  steps = c.loop-len.invariant.1.0;
  walks = c.loop-len.invariant.1.1;
  stops = no-step c.args.passed c.args.text.now c.loop-len.end c.step.result c.step.ensures.step c.in_default.not-Some;
}
