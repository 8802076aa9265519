use Rattle.std.proofs.Common.{◌≡◌, length, reverse}
use Rattle.pw_cpp_condition.specs.Machine.{reduced}
use Rattle.pw_cpp_condition.proofs.frame.reduce.Given as goal

-- what is left gives the answer
abbrev pub invariant-loop-frame : goal.invariant-loop-frame
invariant-loop-frame l = reduced l.at l.fn.first (reverse l.fn.frames) ≡ reduced l.at l.operand (reverse l.frames)

abbrev pub decreases-loop-frame : goal.decreases-loop-frame
decreases-loop-frame l = length l.frames
