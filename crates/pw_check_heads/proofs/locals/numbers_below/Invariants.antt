use Rattle.std.proofs.Common.{◌≡◌}
use Rattle.pw_check_rules.specs.Functions.{numbers_below}
use Rattle.pw_check_heads.proofs.locals.numbers_below.Given as goal

-- those so far
abbrev pub invariant-loop-number : goal.invariant-loop-number
invariant-loop-number l = l.numbers.items ≡ numbers_below l.number
