use Rattle.std.proofs.Common.{◌≡◌, length}
use Rattle.pw_cpp_macros.specs.Macros.{is_spelled_alike}
use Rattle.pw_cpp_macros.proofs.table.is_spelled_alike.Given as goal

-- what is left gives the answer
abbrev pub invariant-loop-left : goal.invariant-loop-left
invariant-loop-left l = is_spelled_alike l.text l.left l.right ≡ is_spelled_alike l.text l.one l.other

abbrev pub decreases-loop-left : goal.decreases-loop-left
decreases-loop-left l = length l.left
