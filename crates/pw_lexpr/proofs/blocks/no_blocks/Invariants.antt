use Rattle.std.proofs.Common.{◌≡◌, None, replicate}
use Rattle.pw_lexpr.proofs.blocks.no_blocks.Given as goal

abbrev pub invariant-loop : goal.invariant-loop
invariant-loop l = l.places.items ≡ replicate l.counter None
