use Rattle.std.proofs.Common.{◌≡◌, ◌≤◌, ◌^◌, min, fold, length}
use Rattle.pw_check_literals.specs.Integers as spec
use Rattle.pw_check_literals.proofs.Numbers.{with_digit}
use Rattle.pw_check_literals.proofs.integers.number.Given as goal

-- what is left is still to be read
abbrev pub invariant-loop-rest : goal.invariant-loop-rest
invariant-loop-rest l =
    (min (fold (with_digit l.base) l.number (spec.without_suffix l.rest)) (2 ^ 32) ≡ min (spec.number_in l.base (spec.without_suffix l.digits)) (2 ^ 32))
    × (l.number ≤ 2 ^ 32)

abbrev pub decreases-loop-rest : goal.decreases-loop-rest
decreases-loop-rest l = length l.rest
