use Rattle.std.proofs.Common.{◌≡◌, ◌+◌, length}
use Rattle.pw_token.specs.Scanning.{closing}
use Rattle.pw_token.specs.declared.literals.Mode.TheVariants.{Plain}
use Rattle.pw_token.proofs.literals.closing.Given as goal

-- what is left gives the answer
abbrev pub invariant-loop-rest : goal.invariant-loop-rest
invariant-loop-rest l =
    (closing l.quote l.mode l.count l.rest ≡ closing l.quote Plain 1 l.text) × (l.count + length l.rest ≡ length l.text + 1)

abbrev pub decreases-loop-rest : goal.decreases-loop-rest
decreases-loop-rest l = length l.rest
