use Rattle.std.proofs.Common.{◌≡◌, length}
use Rattle.std.specs.List.{list_any}
use Rattle.pw_check_literals.specs.Integers as spec
use Rattle.pw_check_literals.proofs.integers.has_unsigned_mark.Given as goal

-- what is left gives the answer
abbrev pub invariant-loop-rest : goal.invariant-loop-rest
invariant-loop-rest l = list_any spec.is_unsigned_mark l.rest ≡ list_any spec.is_unsigned_mark l.text

abbrev pub decreases-loop-rest : goal.decreases-loop-rest
decreases-loop-rest l = length l.rest
