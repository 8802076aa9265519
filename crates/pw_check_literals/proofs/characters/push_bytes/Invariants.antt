use Rattle.std.proofs.Common.{◌≡◌, ◌++◌, length}
use Rattle.pw_check_literals.specs.Characters as spec
use Rattle.pw_check_literals.proofs.characters.push_bytes.Given as goal

-- what is left is still to be pushed
abbrev pub invariant-loop-rest : goal.invariant-loop-rest
invariant-loop-rest l =
    (spec.fits_bytes l.rest ≡ spec.fits_bytes l.characters)
    × (l.bytes.items ++ l.rest ≡ l.initial.bytes.items ++ l.characters)

abbrev pub decreases-loop-rest : goal.decreases-loop-rest
decreases-loop-rest l = length l.rest
