use Rattle.pw_live_needs.specs.Counts.{IsCounted}
use Rattle.pw_live_needs.proofs.needs.find_most.Given as goal

abbrev pub invariant-loop-t : goal.invariant-loop-t
invariant-loop-t l = IsCounted l.f l.t l.counting
