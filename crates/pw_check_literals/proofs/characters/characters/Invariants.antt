use Rattle.std.proofs.Common.{◌≡◌, ◌++◌, map, length, false}
use Rattle.pw_check_literals.specs.Characters as spec
use Rattle.pw_check_literals.specs.Narrow.{narrow, view_escape}
use Rattle.pw_check_literals.proofs.characters.characters.Given as goal

-- what is left is still to be read, and begins with no splice
abbrev pub invariant-loop-rest : goal.invariant-loop-rest
invariant-loop-rest l =
    (l.characters.items ++ map narrow (spec.characters_from (view_escape l.escape) (spec.spliced l.rest)) ≡ map narrow (spec.characters_of l.text))
    × (spec.begins_splice l.rest ≡ false)

abbrev pub decreases-loop-rest : goal.decreases-loop-rest
decreases-loop-rest l = length l.rest
