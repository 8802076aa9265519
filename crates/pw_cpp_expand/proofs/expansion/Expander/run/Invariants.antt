use Rattle.std.proofs.Common.{Ok, length}
use Rattle.pw_cpp_expand.specs.Left.{left}
use Rattle.pw_cpp_expand.specs.AtHand.{ComesTo, IsStep}
use Rattle.pw_cpp_expand.proofs.expansion.Expander.run.Given as goal

-- the turns so far are a step
abbrev pub invariant-loop-more : goal.invariant-loop-more
invariant-loop-more l =
    IsStep l.ground.source.now l.ground.text.now l.ground.macros.now l.ground.mode l.initial.sets
    (λ outcome. ComesTo l.ground.source.now l.ground.text.now l.ground.macros.now l.ground.mode l.initial.sets l.initial.self l.initial.progress outcome) l.sets l.self l.progress (Ok (tt {0}))

abbrev pub decreases-loop-more : goal.decreases-loop-more
decreases-loop-more l = left (length l.ground.text.now) l.self l.progress
