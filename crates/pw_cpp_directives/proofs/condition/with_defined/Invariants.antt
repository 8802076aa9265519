use Rattle.std.proofs.Common.{◌≡◌, length}
use Rattle.std.specs.List.{All}
use Rattle.pw_cpp_directives.proofs.Judging.{IsTaken}
use Rattle.pw_cpp_directives.proofs.condition.with_defined.Given as goal
use Rattle.pw_cpp_expand.specs.Numbered.{HaveEmpty}
use Rattle.pw_cpp_sets.specs.Sets.{Known}

-- what was taken stands in front of what is left
abbrev pub invariant-loop-left : goal.invariant-loop-left
invariant-loop-left l =
    ((known : Known) → HaveEmpty known → IsTaken l.source l.macros l.digits known l.tokens l.taken l.left) × All (λ lexeme. lexeme.hidden ≡ 0) l.taken

abbrev pub decreases-loop-left : goal.decreases-loop-left
decreases-loop-left l = length l.left
