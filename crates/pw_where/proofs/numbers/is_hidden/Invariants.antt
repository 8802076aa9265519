use Rattle.std.proofs.Common.{◌≡◌, length}
use Rattle.pw_where.specs.Shown.{is_hidden}
use Rattle.pw_where.proofs.numbers.is_hidden.Given as goal

abbrev pub invariant-loop-rest : goal.invariant-loop-rest
invariant-loop-rest l = is_hidden l.rest ≡ is_hidden l.name

abbrev pub decreases-loop-rest : goal.decreases-loop-rest
decreases-loop-rest l = length l.rest
