use Rattle.std.proofs.Common.{◌≡◌, ◌≤◌, length}
use Rattle.pw_check_literals.specs.Characters as spec
use Rattle.pw_check_literals.proofs.characters.skip_splices.Given as goal

-- the rest holds the same characters
abbrev pub invariant-loop-rest : goal.invariant-loop-rest
invariant-loop-rest l = (spec.spliced l.rest ≡ spec.spliced l.text) × (length l.rest ≤ length l.text)

abbrev pub decreases-loop-rest : goal.decreases-loop-rest
decreases-loop-rest l = length l.rest
