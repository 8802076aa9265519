use Rattle.std.proofs.Common.{◌≡◌, length, []}
use Rattle.pw_cpp_macros.specs.Definitions.{further_parameters}
use Rattle.pw_cpp_macros.proofs.definition.with_parameters.Given as goal

-- what is left gives the answer
abbrev pub invariant-loop-left : goal.invariant-loop-left
invariant-loop-left l = further_parameters l.text l.names l.left ≡ further_parameters l.text [] l.tokens

abbrev pub decreases-loop-left : goal.decreases-loop-left
decreases-loop-left l = length l.left
